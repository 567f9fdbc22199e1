-- What is said of a text, by the answers of its read and its walk. Assumes nothing.
use Rattle.std.proofs.Common.{Ok, Err}
use Prim.Native.Nat.{ℕ, ◌≤◌}
use mathlib.Core.List.{List}
use mathlib.Core.Path.{◌≡◌, sym, ap, subst, ◌∙◌}
use lib.ListN.{length}
use Rattle.depth.specs.Depth.{deepest_of}
use Rattle.grammar.specs.Kinds.{kinds_of}
use Rattle.lines.specs.Out.{put}
use Rattle.opened.specs.Begun.{read_begun}
use Rattle.opened.specs.Walks.{walk_begun}
use Rattle.opened.specs.declared.begun.Begun.{Begun}
use Rattle.opened.specs.declared.begun.Begun.TheVariants.{Field}
use Rattle.places.specs.Entries.{walk_place}
use Rattle.places.specs.Lines.{between}
use Rattle.read.proofs.AcceptedReads.{read_accepted}
use Rattle.read.specs.Read.{read_answer, read_tape}
use Rattle.rows.specs.Rows.{room_of, entries_of}
use Rattle.sarridok.specs.Walked.{walk_of, links_after}
use Rattle.text.specs.Refusals.{Told}
use Rattle.text.specs.declared.refusal.Refusal.{Refusal}
use Rattle.explain.specs.Explained.{accepted_text, began_text, named_text, begun_text, refusal_text, walked_text, read_text, links_behind, explained}

-- ---- the other place

module _ (s : List ℕ) (out end : List ℕ × ℕ) (b : Begun) where
  pub begun_as : (x : Begun) → b ≡ x → end ≡ put out (begun_text s x) → end ≡ put out (begun_text s b)
  begun_as x e f = f ∙ ap (λ (y : Begun). put out (begun_text s y)) (sym e)

  pub begun_field : (p from to : ℕ) (name : List ℕ) → b ≡ Field p from to → name ≡ between s from to → end ≡ put out (began_text s (named_text name) p)
      → end ≡ put out (begun_text s b)
  unfolding begun_text
  begun_field p from to name e g f = begun_as (Field p from to) e (f ∙ ap (λ (t : List ℕ). put out (began_text s (named_text t) p)) g)

-- ---- the walk

module _ (s tape : List ℕ) (count : ℕ) (a : Told Unit) (r : Told Unit) (told_is : r ≡ a) (out end : List ℕ × ℕ) where
  pub walked_accepted : r ≡ Ok tt → (depth : ℕ) → depth ≡ deepest_of (kinds_of (entries_of count tape)) → end ≡ put out (accepted_text count depth)
      → end ≡ put out (walked_text s tape count a)
  unfolding walked_text
  walked_accepted h depth e f =
      f ∙ ap (λ (d : ℕ). put out (accepted_text count d)) e ∙ ap (λ (x : Told Unit). put out (walked_text s tape count x)) (sym h ∙ told_is)

  pub walked_refused : (d : Refusal) → r ≡ Err d → (p : ℕ) (b : Begun) → p ≡ walk_place tape count d → b ≡ walk_begun s tape count d
      → end ≡ put out (refusal_text s d p b)
      → end ≡ put out (walked_text s tape count a)
  unfolding walked_text
  walked_refused d h p b e g f =
      f ∙ ap (λ (k : ℕ). put out (refusal_text s d k b)) e ∙ ap (λ (x : Begun). put out (refusal_text s d (walk_place tape count d) x)) g
      ∙ ap (λ (x : Told Unit). put out (walked_text s tape count x)) (sym h ∙ told_is)

-- ---- the read

module _ (s tape t : List ℕ) (r : Told ℕ) (told_is : r ≡ read_answer s (length tape)) (tape_is : t ≡ read_tape s tape) where
  -- an accepted read has room for its entries
  pub room_after : (n : ℕ) → r ≡ Ok n → length t ≡ length tape → n ≤ room_of (length t)
  room_after n h e = subst (λ (k : ℕ). n ≤ room_of k) (sym e) (read_accepted s (length tape) n (sym (sym h ∙ told_is))).fits

  module _ (out end : List ℕ × ℕ) (links : ℕ) where
    pub explained_accepted : (n : ℕ) → r ≡ Ok n → end ≡ put out (walked_text s t n (walk_of s t n 128 links)) → end ≡ put out (explained s tape links)
    unfolding explained read_text
    explained_accepted n h f =
        f ∙ ap (λ (x : List ℕ). put out (walked_text s x n (walk_of s x n 128 links))) tape_is
        ∙ ap (λ (x : Told ℕ). put out (read_text s (read_tape s tape) links x)) (sym h ∙ told_is)

    pub explained_refused : (d : Refusal) → r ≡ Err d → (b : Begun) → b ≡ read_begun s d.number
        → end ≡ put out (refusal_text s d d.place b) → end ≡ put out (explained s tape links)
    unfolding explained read_text
    explained_refused d h b g f =
        f ∙ ap (λ (x : Begun). put out (refusal_text s d d.place x)) g ∙ ap (λ (x : Told ℕ). put out (read_text s (read_tape s tape) links x)) (sym h ∙ told_is)

module _ (s tape links after : List ℕ) (a : Told ℕ) (r : Told ℕ) (told_is : r ≡ a) where
  pub links_accepted : (n : ℕ) → r ≡ Ok n → after ≡ links_after s tape n 128 links → after ≡ links_behind s tape links a
  unfolding links_behind
  links_accepted n h f = f ∙ ap (links_behind s tape links) (sym h ∙ told_is)

  pub links_refused : (d : Refusal) → r ≡ Err d → after ≡ links → after ≡ links_behind s tape links a
  unfolding links_behind
  links_refused d h f = f ∙ ap (links_behind s tape links) (sym h ∙ told_is)

-- `p` behind its words: the old text read, its tape repaired. Assumes nothing.
use Rattle.std.proofs.Common.{Ok, Err}
use Prim.Native.Nat.{ℕ, ◌≤◌}
use mathlib.Core.Bool.{Bool}
use mathlib.Core.List.{List, ◌++◌, append-nil}
use mathlib.Core.Path.{◌≡◌, refl, sym, ap, subst, ◌∙◌}
use lib.ListN.{length, take, drop, drop_of_length-le}
use lib.Seq.{take_all}
use Rattle.lines.specs.Over.{over}
use Rattle.text.specs.Words.{starts_with}
use Rattle.lent.specs.Marks.{mark_at, marked, kept_from}
use Rattle.lines.specs.Out.{put}
use Rattle.lines.proofs.OutLaws.{then}
use Rattle.read.specs.Read.{read_answer, read_tape}
use Rattle.repair.specs.Repair.{repair_of, repaired_tape}
use Rattle.repair.specs.declared.repairer.Repaired.{Repaired}
use Rattle.show.specs.Answers.{clean_text, refused_text}
use Rattle.show.specs.Readings.{tape_text}
use Rattle.show.specs.Repairs.{counts_text}
use Rattle.text.specs.Refusals.{Told}
use Rattle.text.specs.declared.refusal.Refusal.{Refusal}
use Rattle.edits.specs.declared.cuts.Cut.{Cut}
use Rattle.edits.specs.Repairs.{told_of, tape_after, changed_of, edit_text, repair_with, by_read, read_repair, room_for, edit_in}
use Rattle.edits.proofs.LineLaws.{Edit, Done}
use Rattle.edits.proofs.AnyLaws.{told_by, left_is}

-- ---- a repair

module _ (tape text aside : List ℕ) (q : Cut) (r : Told Repaired) (e : r ≡ repair_of tape q.count q.old q.a q.b text)
    (left : List ℕ) (l : left ≡ repaired_tape tape q.count q.old q.a q.b text) (copy : List ℕ) (k : copy ≡ over tape aside) (out mid end : List ℕ × ℕ) where
  abbrev after : List ℕ
  after = tape_after tape q text

  same_left : left ≡ after
  same_left = left_is tape text aside q r e left l

  told_text : (a : Told Repaired) → r ≡ a
      → put out (edit_text a q.count after (over tape aside)) ≡ put out (edit_text (told_of tape q text) q.count after (over tape aside))
  told_text a f = ap (λ (t : Told Repaired). put out (edit_text t q.count after (over tape aside))) (told_by tape text aside q r e a f)

  pub text_accepted : (p : Repaired) → r ≡ Ok p → mid ≡ put out (counts_text p.count p.before p.behind)
      → (next : List ℕ × ℕ) → next ≡ put mid (tape_text 59 left p.count) → (w : ℕ) → w ≡ changed_of p.count q.count
      → (kept : Bool) → kept ≡ kept_from mark_at (drop w left) w → end ≡ put next (clean_text kept) → Done (repair_with q text tape aside) out end left copy
  unfolding repair_with
  text_accepted p f g next h w i kept j m =
      let c : List ℕ = counts_text p.count p.before p.behind in (
        then out next end (c ++ tape_text 59 left p.count) (clean_text kept) (then out mid next c (tape_text 59 left p.count) g h) m
            ∙ ap (λ (b : Bool). put out (c ++ tape_text 59 left p.count ++ clean_text b)) j
            ∙ ap (λ (x : ℕ). put out (c ++ tape_text 59 left p.count ++ clean_text (kept_from mark_at (drop x left) x))) i
            ∙ ap (λ (t : List ℕ). put out (c ++ tape_text 59 t p.count ++ clean_text (kept_from mark_at (drop (changed_of p.count q.count) t) (changed_of p.count q.count)))) same_left
            ∙ told_text (Ok p) f,
        same_left,
        k,
      )

  pub text_refused : (f : Refusal) → r ≡ Err f → mid ≡ put out (refused_text f)
      → (same : Bool) → same ≡ starts_with left copy → end ≡ put mid (clean_text same) → Done (repair_with q text tape aside) out end left copy
  unfolding repair_with
  text_refused f g h same j i = (
    then out mid end (refused_text f) (clean_text same) h i
        ∙ ap (λ (b : Bool). put out (refused_text f ++ clean_text b)) j
        ∙ ap (λ (s : List ℕ). put out (refused_text f ++ clean_text (starts_with s copy))) same_left
        ∙ ap (λ (s : List ℕ). put out (refused_text f ++ clean_text (starts_with after s))) k
        ∙ told_text (Err f) g,
    same_left,
    k,
  )

-- ---- the old text read first

module _ (old new tape aside : List ℕ) (a b : ℕ) (marks : List ℕ) (e : marks ≡ marked mark_at (length tape) 0 tape)
    (r : Told ℕ) (f : r ≡ read_answer old (length marks)) (left : List ℕ) (g : left ≡ read_tape old marks) where
  pub told-read : (x : Told ℕ) → r ≡ x → read_repair old new a b tape aside ≡ by_read x old new a b left aside
  unfolding read_repair
  told-read x h =
      ap (λ (t : List ℕ). by_read (read_answer old (length t)) old new a b (read_tape old t) aside) (sym e)
      ∙ ap (λ (t : Told ℕ). by_read t old new a b (read_tape old marks) aside) (sym f ∙ h)
      ∙ ap (λ (t : List ℕ). by_read x old new a b t aside) (sym g)

-- ---- a part of the tape, or all of it

module _ (old new tape aside : List ℕ) (a b : ℕ) (out end : List ℕ × ℕ) (last copy : List ℕ) where
  abbrev parts : ℕ → List ℕ → Edit
  parts j rest = ((read_repair old new a b (take j tape) aside).0, (read_repair old new a b (take j tape) aside).1 ++ rest, (read_repair old new a b (take j tape) aside).2)

  pub edit_part : (k m : ℕ) → k ≡ room_for (length old) (length new) → m ≡ k → Done (read_repair old new a b (take m tape) aside) out end last copy
      → Done (edit_in old new a b tape aside) out end (last ++ drop m tape) copy
  unfolding edit_in
  edit_part k m e f h =
      subst (λ (j : ℕ). Done (parts j (drop j tape)) out end (last ++ drop m tape) copy) (f ∙ e) (h.0, ap (λ (l : List ℕ). l ++ drop m tape) h.1, h.2)

  pub edit_all : (k : ℕ) → k ≡ room_for (length old) (length new) → length tape ≤ k → Done (read_repair old new a b tape aside) out end last copy
      → Done (edit_in old new a b tape aside) out end last copy
  edit_all k e i h =
      subst (λ (l : List ℕ). Done (edit_in old new a b tape aside) out end l copy) (ap (λ (l : List ℕ). last ++ l) (drop_of_length-le tape i) ∙ append-nil last)
      (edit_part k k e refl (subst (λ (t : List ℕ). Done (read_repair old new a b t aside) out end last copy) (sym (take_all k tape i)) h))

-- the two texts by other names
pub edit_same : (tape aside : List ℕ) (a b : ℕ) {s t old new : List ℕ} → s ≡ old → t ≡ new → edit_in old new a b tape aside ≡ edit_in s t a b tape aside
edit_same tape aside a b {s} {t} {old} {new} e f = ap (λ (x : List ℕ). edit_in x new a b tape aside) (sym e) ∙ ap (λ (x : List ℕ). edit_in s x a b tape aside) (sym f)

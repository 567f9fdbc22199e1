-- The answer of `walk` and the links it leaves, way by way. Assumes nothing.
use Rattle.std.proofs.Common.{Ok, Err}
use Prim.Native.Nat.{ℕ, ◌≤◌, ◌<◌}
use mathlib.Core.Bool.{true, false}
use mathlib.Core.List.{List}
use mathlib.Core.Path.{◌≡◌, ap, sym, ◌∙◌}
use lib.ListN.{length}
use borrow.Author.Tests.{lt-ltb, le-ltb}
use Rattle.text.specs.Judged.{judged_of}
use Rattle.text.specs.Refusals.{Told, unfit, not_in_order, no_room}
use Rattle.text.specs.declared.refusal.Refusal.{Refusal}
use Rattle.rows.specs.Rows.{room_of, entries_of}
use Rattle.rows.specs.Order.{in_order}
use Rattle.grammar.specs.Kinds.{kinds_of}
use Rattle.grammar.specs.Walk.{linked_of}
use Rattle.fields.specs.Names.{name_at, raws_fit}
use Rattle.fields.specs.Fields.{named_walk}
use Rattle.sarridok.specs.Walked.{behind_walk_front, walk_of, left_by, links_after}

module _ (text tape : List ℕ) (count limit links : ℕ) where
  pub walk_unread : (r : Refusal) → judged_of text ≡ Err r → walk_of text tape count limit links ≡ Err r
  unfolding walk_of behind_walk_front
  walk_unread r e = rw e

  module _ (fit : judged_of text ≡ Ok tt) where
    pub walk_28 : 128 < limit → walk_of text tape count limit links ≡ Err unfit
    unfolding walk_of behind_walk_front
    walk_28 h = simp (fit, lt-ltb _ _ h)

    module _ (a : limit ≤ 128) where
      pub walk_23 : room_of (length tape) < count → walk_of text tape count limit links ≡ Err not_in_order
      unfolding walk_of behind_walk_front
      walk_23 h = simp (fit, le-ltb _ _ a, lt-ltb _ _ h)

      module _ (b : count ≤ room_of (length tape)) where
        pub walk_23_order : in_order (entries_of count tape) (length text) ≡ false → walk_of text tape count limit links ≡ Err not_in_order
        unfolding walk_of behind_walk_front
        walk_23_order h = simp (fit, le-ltb _ _ a, le-ltb _ _ b, h)

        module _ (c : in_order (entries_of count tape) (length text) ≡ true) where
          pub walk_23_raws : raws_fit text (entries_of count tape) ≡ false → walk_of text tape count limit links ≡ Err not_in_order
          unfolding walk_of behind_walk_front
          walk_23_raws h = simp (fit, le-ltb _ _ a, le-ltb _ _ b, c, h)

          module _ (d : raws_fit text (entries_of count tape) ≡ true) where
            pub walk_22 : links < count → walk_of text tape count limit links ≡ Err no_room
            unfolding walk_of behind_walk_front
            walk_22 h = simp (fit, le-ltb _ _ a, le-ltb _ _ b, c, d, lt-ltb _ _ h)

            pub walk_judged : count ≤ links → (v : Told Unit) → v ≡ named_walk (name_at text tape) (kinds_of (entries_of count tape)) limit → walk_of text tape count limit links ≡ v
            unfolding walk_of behind_walk_front
            walk_judged h v e = simp (fit, le-ltb _ _ a, le-ltb _ _ b, c, d, le-ltb _ _ h) (sym e)

-- what a refused call promises, and what an accepted one does
module _ (text tape : List ℕ) (count limit : ℕ) (out : List ℕ) where
  pub refused_meets : (x r : Refusal) → x ≡ r → walk_of text tape count limit (length out) ≡ Err r
      → (Err x ≡ walk_of text tape count limit (length out)) × (out ≡ links_after text tape count limit out)
  unfolding links_after
  refused_meets x r e w = (ap Err e ∙ sym w, sym (ap (λ (t : Told Unit). left_by t (entries_of count tape) out) w))

  pub accepted_meets : (left : List ℕ) → left ≡ linked_of (kinds_of (entries_of count tape)) out → walk_of text tape count limit (length out) ≡ Ok tt
      → (Ok tt ≡ walk_of text tape count limit (length out)) × (left ≡ links_after text tape count limit out)
  unfolding links_after
  accepted_meets left e w = (sym w, e ∙ sym (ap (λ (t : Told Unit). left_by t (entries_of count tape) out) w))

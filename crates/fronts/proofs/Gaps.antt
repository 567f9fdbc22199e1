-- A gap that is not the distance from the former entry's end, or from the text's start, is 23 (document 02, CR 6); in a tape in order each is. Assumes nothing.
use Rattle.std.proofs.Common.{Ok, Err}
use Prim.Native.Nat.{ℕ, ◌+◌, ◌<◌, ◌≤◌}
use native.Mathlib.Omega.{arith}
use mathlib.Core.Bool.{Bool, ◌&&◌, false, true}
use mathlib.Core.List.{List}
use mathlib.Core.Logic.{inl, inr}
use mathlib.Core.Path.{◌≡◌, ◌∙◌, ap, refl, subst}
use lib.Dec.{leb}
use lib.ListN.{length}
use Rattle.text.proofs.Choices.{and_false, bool_cases, either}
use Rattle.text.specs.Judged.{judged_of}
use Rattle.text.specs.Refusals.{not_in_order}
use Rattle.rows.proofs.OrderLaws.{in_order_distance}
use Rattle.rows.proofs.RowLaws.{entries_at, length_entries}
use Rattle.rows.specs.Order.{former_end, in_order}
use Rattle.rows.specs.Rows.{entries_of, entry_at, room_of}
use Rattle.rows.specs.declared.Entry.{Entry}
use Rattle.repair.specs.Repair.{cut_fits, repair_answer_of, repair_fits, repair_of}
use Rattle.sarridok.specs.Walked.{walk_of}
use Rattle.fronts.proofs.WalkFronts.{walk_23}

module _ (tape : List ℕ) (count k : ℕ) (below : k < count) where
  -- what a gap is
  abbrev pub Distance : Type 0
  Distance = former_end 0 (entries_of count tape) k + (entry_at tape k).gap ≡ (entry_at tape k).start

  pub ordered_gap : (limit : ℕ) → in_order (entries_of count tape) limit ≡ true → former_end 0 (entries_of count tape) k + (entry_at tape k).gap ≡ (entry_at tape k).start
  unfolding in_order
  ordered_gap limit h =
      let none : Entry = entry_at tape k in
      subst (λ (e : Entry). former_end 0 (entries_of count tape) k + e.gap ≡ e.start) (entries_at count k tape none below)
      (in_order_distance (entries_of count tape) 0 limit h k none (omega (arith, length_entries count tape)))

  torn : (limit : ℕ) → (Distance → ⊥) → in_order (entries_of count tape) limit ≡ false
  torn limit off = either (bool_cases (in_order (entries_of count tape) limit)) (λ h. absurd (off (ordered_gap limit h))) (λ h. h)

  pub walk_gap : (text : List ℕ) (limit links : ℕ) → judged_of text ≡ Ok tt → limit ≤ 128 → (former_end 0 (entries_of count tape) k + (entry_at tape k).gap ≡ (entry_at tape k).start → ⊥)
      → walk_of text tape count limit links ≡ Err not_in_order
  walk_gap text limit links fit h off = (walk_23 text tape count limit links).1 (fit, h, inr (inl (torn (length text) off)))

  torn_tape : (o a b n : ℕ) → (Distance → ⊥) → repair_fits tape count o a b n ≡ false
  unfolding repair_fits
  torn_tape o a b n off =
      ap (λ (x : Bool). cut_fits o a b n && (leb count (room_of (length tape)) && x)) (torn o off)
      ∙ ap (λ (x : Bool). cut_fits o a b n && x) (and_false (leb count (room_of (length tape)))) ∙ and_false (cut_fits o a b n)

  pub repair_gap : (o a b : ℕ) (text : List ℕ) → judged_of text ≡ Ok tt → (former_end 0 (entries_of count tape) k + (entry_at tape k).gap ≡ (entry_at tape k).start → ⊥)
      → repair_of tape count o a b text ≡ Err not_in_order
  unfolding repair_of repair_answer_of
  repair_gap o a b text fit off = rw (fit, torn_tape o a b (length text) off) refl

-- The search by halves: an entry of a tape in order tells of all before it. Assumes nothing.
use Prim.Native.Nat.{◌+◌, ◌<◌, ◌≤◌, ℕ}
use native.Mathlib.Omega.{arith}
use mathlib.Core.List.{List}
use mathlib.Core.Path.{◌≡◌, ap}
use lib.ListN.{get_or, length}
use borrow.Author.Tests.{ltb-false, ltb-true}
use Rattle.repair.proofs.Leading.{lead_at, lead_not}
use Rattle.repair.specs.Repair.{ends_before, leading, no_entry}
use Rattle.repair.specs.inner.Steps.{InOrder}
use Rattle.rows.proofs.OrderLaws.{in_order_rise, in_order_row}
use Rattle.rows.proofs.RowLaws.{entries_at, length_entries}
use Rattle.rows.specs.Order.{in_order}
use Rattle.rows.specs.Rows.{entries_of, entry_at}
use Rattle.rows.specs.declared.Entry.{Entry}
use Rattle.text.proofs.Choices.{either, lt_or_le}

module _ (old : List Entry) (sorted : InOrder old) where
  -- no entry ends before a former one
  ends_rise : (j k : ℕ) → j ≤ k → k < length old → (get_or old j no_entry).end ≤ (get_or old k no_entry).end
  unfolding in_order
  ends_rise j k h l =
      either (lt_or_le j k)
      (λ less. omega (arith, in_order_rise old 0 sorted.0 sorted.1 j k no_entry less l, (in_order_row old 0 sorted.0 sorted.1 k no_entry l).some))
      (λ same. let z : j ≡ k = omega arith in omega (arith, ap (λ (n : ℕ). (get_or old n no_entry).end) z))

module _ (t : List ℕ) (count q k : ℕ) (x : Entry) (is : x ≡ entry_at t k) (inside : k < count) where
  abbrev old : List Entry
  old = entries_of count t

  here : (get_or old k no_entry).end ≡ x.end
  here = omega (arith, ap (λ (y : Entry). y.end) (entries_at count k t no_entry inside), ap (λ (y : Entry). y.end) is)

  -- an entry that ends before q, and with it all before it
  pub half_below : InOrder (entries_of count t) → x.end < q → k + 1 ≤ leading (ends_before q) (entries_of count t)
  half_below sorted h =
      either (lt_or_le k (leading (ends_before q) old))
      (λ l. omega arith)
      (λ l.
      let n : leading (ends_before q) old < length old = omega (arith, length_entries count t) in
      let late = ltb-false (get_or old (leading (ends_before q) old) no_entry).end q (lead_not (ends_before q) old n) in
      absurd (omega (arith, late, here, ends_rise old sorted (leading (ends_before q) old) k l (omega (arith, length_entries count t)))))

  -- an entry that does not
  pub half_above : q ≤ x.end → leading (ends_before q) (entries_of count t) ≤ k
  half_above h =
      either (lt_or_le k (leading (ends_before q) old))
      (λ l. absurd (omega (arith, here, ltb-true (get_or old k no_entry).end q (lead_at (ends_before q) old k l))))
      (λ l. l)

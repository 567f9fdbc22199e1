-- Rows as parts of the list of all rows. Assumes nothing.
use Prim.Native.Nat.{ℕ, ◌+◌, ◌-◌, ◌*◌, ◌<◌, ◌≤◌}
use native.Mathlib.Omega.{arith}
use mathlib.Core.List.{List, [], ◌∷◌, ◌++◌}
use mathlib.Core.Path.{◌≡◌, ap, refl, sym, ◌∙◌}
use lib.ListN.{take, drop}
use lib.Seq.{take_at, drop_at}
use Rattle.reading.specs.Readings.{end_of}
use Rattle.rows.proofs.RowLaws.{entries_split, entries_last, length_entries}
use Rattle.rows.specs.Rows.{entries_of, entry_at, width}
use Rattle.rows.specs.declared.Entry.{Entry}

module _ (count j : ℕ) (t : List ℕ) (h : j ≤ count) where
  split_at : entries_of count t ≡ entries_of j t ++ entries_of (count - j) (drop (width * j) t)
  split_at = let z : count ≡ j + (count - j) = omega arith in ap (λ (n : ℕ). entries_of n t) z ∙ entries_split j (count - j) t

  pub entries_take : take j (entries_of count t) ≡ entries_of j t
  entries_take = ap (take j) split_at ∙ take_at (entries_of j t) (entries_of (count - j) (drop (width * j) t)) j (length_entries j t)

  pub entries_drop : drop j (entries_of count t) ≡ entries_of (count - j) (drop (width * j) t)
  entries_drop = ap (drop j) split_at ∙ drop_at (entries_of j t) (entries_of (count - j) (drop (width * j) t)) j (length_entries j t)

pub end_last : (es : List Entry) (at : ℕ) (x : Entry) → end_of at (es ++ (x ∷ [])) ≡ x.end
unfolding end_of
end_last [] at x = refl
end_last (y ∷ es) at x = end_last es y.end x

pub end_row : (j : ℕ) (t : List ℕ) → 0 < j → (entry_at t (j - 1)).end ≡ end_of 0 (entries_of j t)
end_row j t h =
    let z : j ≡ j - 1 + 1 = omega arith in
    sym (ap (λ (n : ℕ). end_of 0 (entries_of n t)) z ∙ ap (end_of 0) (entries_last (j - 1) t) ∙ end_last (entries_of (j - 1) t) 0 (entry_at t (j - 1)))

pub end_none : (j : ℕ) (t : List ℕ) → j ≡ 0 → 0 ≡ end_of 0 (entries_of j t)
unfolding end_of entries_of
end_none j t h = sym (ap (λ (n : ℕ). end_of 0 (entries_of n t)) h)

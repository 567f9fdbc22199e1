-- Numbers of 32 bits, and those at the front of a slice. Assumes nothing.
use Prim.Native.Nat.{ℕ, ◌-◌, ◌^◌, ◌<◌, ◌≤◌}
use native.Mathlib.Omega.{arith}
use mathlib.Core.List.{List, [], ◌∷◌, ◌++◌}
use mathlib.Core.Path.{◌≡◌, ap, sym, ◌∙◌}
use lib.ListN.{drop, length}
use borrow.Author.Tests.{le-leb, le-ltb, lt-leb, lt-ltb}
use Rattle.std.proofs.Common.{Result, Ok, Err}
use Rattle.std.specs.Result.{OkIff, result_unwrap_or}
use Rattle.pieces.specs.declared.state.Arrival.{Arrival}
use Rattle.stored.specs.Numbers.{gap_number, last_number, level_number, low, numbers_of, stored_in}

pub low_low : (n : ℕ) → n ≤ 2 ^ 32 - 1 → low n ≡ n
unfolding low
low_low n h = rw (le-ltb _ _ h)

pub low_high : (n : ℕ) → 2 ^ 32 - 1 < n → low n ≡ 2 ^ 32 - 1
unfolding low
low_high n h = rw (lt-ltb _ _ h)

-- the number that a conversion to 32 bits gives, or the largest of them
pub low_by : {E : Type 0} (r : Result ℕ E) (n : ℕ) → OkIff r (n < 2 ^ 32) n → result_unwrap_or r (2 ^ 32 - 1) ≡ low n
low_by (Ok x) n o = o.1 ∙ sym (low_low n (omega (arith, o.0)))
low_by (Err e) n o = sym (low_high n (omega (arith, o)))

module _ (a : Arrival) (s : List ℕ) where
  pub stored_short : length s < 10 → s ≡ stored_in a s
  unfolding stored_in
  stored_short l = rw (lt-leb 10 (length s) l)

  pub stored_long : 10 ≤ length s → stored_in a s ≡ numbers_of a ++ drop 10 s
  unfolding stored_in
  stored_long l = rw (le-leb 10 (length s) l)

  -- a state's numbers, stored
  pub stored_ten : 10 ≤ length s → (taken part gap level last number place reason former kept : ℕ) → taken ≡ low a.taken → part ≡ low a.part → gap ≡ gap_number a.gap
      → level ≡ level_number a.gap → last ≡ last_number a.gap → number ≡ a.refusal.number → place ≡ low a.refusal.place → reason ≡ a.refusal.reason
      → former ≡ low a.former → kept ≡ low a.kept
      → (taken ∷ part ∷ gap ∷ level ∷ last ∷ number ∷ place ∷ reason ∷ former ∷ kept ∷ []) ++ drop 10 s ≡ stored_in a s
  unfolding numbers_of
  stored_ten l taken part gap level last number place reason former kept e f g h i j k m n o =
      let same : (taken ∷ part ∷ gap ∷ level ∷ last ∷ number ∷ place ∷ reason ∷ former ∷ kept ∷ []) ≡ numbers_of a = cc in
      ap (λ (x : List ℕ). x ++ drop 10 s) same ∙ sym (stored_long l)

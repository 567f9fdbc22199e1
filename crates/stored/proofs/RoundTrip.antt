-- Nothing of a state is cut off where it is stored: a host that keeps the ten numbers gets the state back.
--     round_trip        from the numbers themselves
--     round_trip_in     from a slice, whatever stands behind them
-- They hold of every state in order, so of every state that the calls make. Assumes nothing.
use Prim.Native.Nat.{ℕ, ◌≤◌}
use native.Mathlib.Omega.{arith}
use mathlib.Core.Bool.{true, cond, ◌||◌}
use mathlib.Core.List.{List, ◌++◌}
use Rattle.std.proofs.Common.{Option, Some, None}
use mathlib.Core.Path.{◌≡◌, ap, refl, ◌∙◌}
use lib.Dec.{ltb}
use lib.ListN.{drop, get_or, length, take}
use borrow.Author.Tests.{le-ltb}
use Rattle.gaps.specs.declared.state.Open.{Open}
use Rattle.gaps.specs.declared.state.Open.TheVariants.{Clear, Slash, Line, Block}
use Rattle.pieces.proofs.OrderLaws.{numbers}
use Rattle.pieces.specs.Orders.{in_order, open_fits}
use Rattle.pieces.specs.declared.state.Arrival.{Arrival}
use Rattle.stored.proofs.Bounds.{last_small, order_small}
use Rattle.stored.proofs.StoreLaws.{low_low, stored_long}
use Rattle.stored.specs.Numbers.{gap_number, gap_of, last_number, level_number, low, numbers_of, state_by, state_of, stored_in}

-- what is open
gap_again : (o : Open) (taken : ℕ) → open_fits o taken ≡ true → gap_of (gap_number o) (level_number o) (last_number o) ≡ Some o
unfolding gap_of
gap_again Clear taken h = refl
gap_again Slash taken h = refl
gap_again Line taken h = refl
gap_again (Block level last) taken h = rw (le-ltb 255 last (last_small (Block level last) taken h))

module _ (a : Arrival) (h : in_order a ≡ true) where
  -- the other numbers
  abbrev lowered : Arrival
  lowered = record {
    taken = low a.taken;
    kept = low a.kept;
    part = low a.part;
    former = low a.former;
    gap = a.gap;
    refusal = record { number = a.refusal.number; reason = a.refusal.reason; place = low a.refusal.place };
  }

  known : ◌≡◌ {A = Option Arrival} (cond (ltb 255 a.refusal.number || ltb 255 a.refusal.reason) None (Some lowered)) (Some a)
  known =
      let k = numbers a h in
      let s = order_small a h in
      rw (
        le-ltb 255 a.refusal.number (omega (arith, s.number)),
        le-ltb 255 a.refusal.reason (omega (arith, s.reason)),
        low_low a.taken (omega (arith, k.short)),
        low_low a.kept (omega (arith, k.held)),
        low_low a.part (omega (arith, k.few)),
        low_low a.former (omega (arith, k.short, k.former)),
        low_low a.refusal.place (omega (arith, s.place)),
      )

  abbrev open_again : gap_of (gap_number a.gap) (level_number a.gap) (last_number a.gap) ≡ Some a.gap
  open_again = gap_again a.gap a.taken (numbers a h).opened

  pub round_trip : state_of (take 9 (numbers_of a)) (get_or (numbers_of a) 9 0) ≡ Some a
  unfolding state_of numbers_of
  round_trip = ap (λ (g : Option Open). state_by g (take 9 (numbers_of a)) (low a.kept)) open_again ∙ known

  behind_again : (t : List ℕ) → state_of (numbers_of a ++ t) (get_or (numbers_of a ++ t) 9 0) ≡ Some a
  unfolding state_of numbers_of
  behind_again t = ap (λ (g : Option Open). state_by g (numbers_of a ++ t) (low a.kept)) open_again ∙ known

  pub round_trip_in : (s : List ℕ) → 10 ≤ length s → state_of (stored_in a s) (get_or (stored_in a s) 9 0) ≡ Some a
  round_trip_in s l = ap (λ (x : List ℕ). state_of x (get_or x 9 0)) (stored_long a s l) ∙ behind_again (drop 10 s)

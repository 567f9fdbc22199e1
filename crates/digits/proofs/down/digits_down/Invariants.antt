use Prim.Native.Nat.{ℕ}
use mathlib.Core.Path.{◌≡◌}
use lib.IntN.{nat_abs, pos, neg_ℤ}
use lib.ListN.{drop}
use Rattle.digits.specs.Digits.{digits_from, digits_of}
use Rattle.digits.proofs.down.digits_down.Given as goal

abbrev pub invariant-loop-i : goal.invariant-loop-i
invariant-loop-i l =
    (m : ℕ) × ((l.acc ≡ neg_ℤ (pos m)) ×
    (digits_of (nat_abs l.low) l.base l.run ≡ digits_from (nat_abs l.low) l.base m l.i (drop l.i l.run)))

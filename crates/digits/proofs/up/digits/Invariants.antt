use mathlib.Core.Path.{◌≡◌}
use lib.ListN.{drop}
use Rattle.digits.specs.Digits.{digits_from, digits_of}
use Rattle.digits.proofs.up.digits.Given as goal

abbrev pub invariant-loop-i : goal.invariant-loop-i
invariant-loop-i l = digits_of l.limit l.base l.run ≡ digits_from l.limit l.base l.acc l.i (drop l.i l.run)

use mathlib.Core.Path.{◌≡◌}
use lib.ListN.{drop}
use Rattle.digits.specs.Value.{value_from, value_of}
use Rattle.plain_numbers.proofs.width.value.Given as goal

abbrev pub invariant-loop-c : goal.invariant-loop-c
invariant-loop-c l = value_from 10 l.acc (drop l.c-index l.s) ≡ value_of 10 l.s

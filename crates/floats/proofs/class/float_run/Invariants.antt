use Prim.Native.Nat.{◌+◌}
use mathlib.Core.Path.{◌≡◌}
use lib.ListN.{drop}
use Rattle.floats.specs.Classes.{float_run}
use Rattle.floats.proofs.class.float_run.Given as goal

abbrev pub invariant-loop-i : goal.invariant-loop-i
invariant-loop-i l = l.i + float_run (drop l.i l.s) ≡ float_run l.s

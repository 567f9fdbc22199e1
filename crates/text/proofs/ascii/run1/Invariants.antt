use Prim.Native.Nat.{◌+◌}
use mathlib.Core.Path.{◌≡◌}
use lib.ListN.{drop}
use Rattle.text.specs.Runs.{ascii, run}
use Rattle.text.proofs.ascii.run1.Given as goal

abbrev pub invariant-loop-i : goal.invariant-loop-i
invariant-loop-i l = l.i + run ascii (drop l.i l.s) ≡ l.at + run ascii (drop l.at l.s)

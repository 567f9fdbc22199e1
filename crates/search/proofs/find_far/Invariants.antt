use Prim.Native.Nat.{◌+◌, ◌-◌, ◌≤◌}
use mathlib.Core.Path.{◌≡◌}
use lib.ListN.{drop, length}
use Rattle.text.specs.Runs.{run}
use Rattle.search.specs.inner.Others.{neither}
use Rattle.search.proofs.find_far.Given as goal

abbrev pub invariant-loop-i : goal.invariant-loop-i
invariant-loop-i l = (l.i ≤ length l.s) × (l.i + run (neither l.a l.b) (drop l.i l.s) ≡ l.from + run (neither l.a l.b) (drop l.from l.s))

abbrev pub decreases-loop-i : goal.decreases-loop-i
decreases-loop-i l = length l.s - l.i

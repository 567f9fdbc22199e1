use Prim.Native.Nat.{◌-◌}
use mathlib.Core.Path.{◌≡◌}
use lib.ListN.{drop, length}
use Rattle.settled.specs.Stood.{list_stood}
use Rattle.settled.proofs.stood_list.list_stood.Given as goal

abbrev pub invariant-loop-at : goal.invariant-loop-at
invariant-loop-at l = list_stood (drop l.at l.s) 0 l.at ≡ list_stood (drop l.start l.s) 0 l.start

abbrev pub decreases-loop-at : goal.decreases-loop-at
decreases-loop-at l = length l.s - l.at

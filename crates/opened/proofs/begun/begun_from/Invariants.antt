use Prim.Native.Nat.{◌-◌}
use mathlib.Core.Path.{◌≡◌}
use lib.ListN.{drop, length}
use Rattle.opened.specs.Begun.{begun_from}
use Rattle.opened.proofs.begun.begun_from.Given as goal

abbrev pub invariant-loop-at : goal.invariant-loop-at
invariant-loop-at l = begun_from (drop l.at l.text) 0 l.at ≡ begun_from (drop l.from l.text) 0 l.from

abbrev pub decreases-loop-at : goal.decreases-loop-at
decreases-loop-at l = length l.text - l.at

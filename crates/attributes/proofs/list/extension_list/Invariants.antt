use Prim.Native.Nat.{◌-◌, ◌<◌}
use mathlib.Core.Path.{◌≡◌}
use lib.ListN.{drop, length}
use Rattle.attributes.specs.List.{list_from, list_of}
use Rattle.attributes.proofs.list.extension_list.Given as goal

abbrev pub invariant-loop-at : goal.invariant-loop-at
invariant-loop-at l = (l.extensions < 16) × (list_from (drop l.at l.s) 0 l.at l.extensions ≡ list_of l.s l.start)

abbrev pub decreases-loop-at : goal.decreases-loop-at
decreases-loop-at l = length l.s - l.at

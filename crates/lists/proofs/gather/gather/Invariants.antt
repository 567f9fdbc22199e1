use Prim.Native.Nat.{◌-◌}
use mathlib.Core.Path.{◌≡◌}
use lib.ListN.{length}
use Rattle.lists.specs.Gathers.{rows_of}
use Rattle.lists.proofs.GatherLaws.{Gathering, from_row, all_of}
use Rattle.lists.proofs.gather.gather.Given as goal

abbrev pub invariant-loop-i : goal.invariant-loop-i
invariant-loop-i l = (length l.list ≡ length l.initial.list) × (l.i-end ≡ rows_of l.n l.tape) × Gathering (all_of l.tape l.i-end) l.initial.list (from_row l.tape l.i-end l.i) (l.list, l.k)

abbrev pub decreases-loop-i : goal.decreases-loop-i
decreases-loop-i l = l.i-end - l.i

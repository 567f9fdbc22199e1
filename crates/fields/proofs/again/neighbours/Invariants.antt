use Prim.Native.Nat.{◌-◌, ◌≤◌}
use lib.ListN.{length}
use Rattle.fields.proofs.FirstLaws.{Ascending, Least, Near}
use Rattle.fields.specs.Names.{name_at}
use Rattle.fields.proofs.again.neighbours.Given as goal

abbrev pub invariant-loop-p : goal.invariant-loop-p
invariant-loop-p l = (1 ≤ l.p) × Ascending (name_at l.text l.tape) l.fields l.p × Least (Near (name_at l.text l.tape) l.fields l.p) l.found

abbrev pub decreases-loop-p : goal.decreases-loop-p
decreases-loop-p l = length l.fields - l.p

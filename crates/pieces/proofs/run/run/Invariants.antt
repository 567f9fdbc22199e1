use Prim.Native.Nat.{◌-◌, ◌≤◌}
use lib.ListN.{length}
use Rattle.pieces.proofs.RunLaws.{SoFar}
use Rattle.pieces.proofs.run.run.Given as goal

abbrev pub invariant-loop-n : goal.invariant-loop-n
invariant-loop-n l = (l.at ≤ l.whole) × (l.at ≤ l.seen) × (l.seen ≤ length l.s) × SoFar l.s l.from l.kept l.seen l.at l.count

abbrev pub decreases-loop-n : goal.decreases-loop-n
decreases-loop-n l = length l.s - l.seen

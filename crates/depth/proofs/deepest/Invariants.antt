use Prim.Native.Nat.{◌-◌, ◌≤◌}
use Rattle.depth.proofs.DepthLaws.{Deep}
use Rattle.depth.proofs.deepest.Given as goal

abbrev pub invariant-loop-i : goal.invariant-loop-i
invariant-loop-i l = (l.i ≤ l.count) × Deep l.tape l.count l.deep l.most l.i

abbrev pub decreases-loop-i : goal.decreases-loop-i
decreases-loop-i l = l.count - l.i

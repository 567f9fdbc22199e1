use Prim.Native.Nat.{◌-◌, ◌≤◌}
use mathlib.Core.Path.{◌≡◌}
use lib.ListN.{length}
use Rattle.walk.proofs.JoinLaws.{Joining}
use Rattle.walk.proofs.joining.join.Given as goal

abbrev pub invariant-loop-i : goal.invariant-loop-i
invariant-loop-i l = (l.i ≤ l.count) × (l.depth ≤ 128) × (length l.links ≡ length l.initial.links) × (length l.open ≡ 128) × Joining l.tape l.count l.initial.links l.open l.depth l.i l.links

abbrev pub decreases-loop-i : goal.decreases-loop-i
decreases-loop-i l = l.count - l.i

use Prim.Native.Nat.{◌-◌, ◌≤◌}
use mathlib.Core.Path.{◌≡◌}
use lib.ListN.{length}
use Rattle.walk.proofs.JudgeTurns.{Turning}
use Rattle.walk.proofs.judging.judge_in.Given as goal

abbrev pub invariant-loop-w : goal.invariant-loop-w
invariant-loop-w l =
    (l.next ≤ l.count) × (l.depth ≤ l.limit) × (length l.outer ≡ 128) × (length l.bases ≡ 128) × (length l.fields ≡ length l.initial.fields)
    × Turning l.text l.tape l.count l.limit l.fields l.outer l.bases l.depth l.top l.want l.inside l.found l.next

abbrev pub decreases-loop-w : goal.decreases-loop-w
decreases-loop-w l =
    l.count - l.next

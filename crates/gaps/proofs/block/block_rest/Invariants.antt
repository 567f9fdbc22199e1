use Prim.Native.Nat.{◌+◌, ◌-◌, ◌<◌, ◌≤◌}
use mathlib.Core.Path.{◌≡◌}
use lib.ListN.{length}
use Rattle.gaps.proofs.RestLaws.{rest_at}
use Rattle.gaps.specs.inner.Steps.{rest_of}
use Rattle.gaps.proofs.block.block_rest.Given as goal

abbrev pub invariant-loop-i : goal.invariant-loop-i
invariant-loop-i l = (l.i ≤ length l.s) × (0 < l.level) × (l.level ≤ l.around + 1 + l.i) × (rest_at l.s l.i l.level ≡ rest_of l.s l.from l.around)

abbrev pub decreases-loop-i : goal.decreases-loop-i
decreases-loop-i l = length l.s - l.i

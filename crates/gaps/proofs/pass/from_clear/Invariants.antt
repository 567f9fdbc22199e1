use Prim.Native.Nat.{◌-◌, ◌≤◌}
use Rattle.gaps.specs.inner.Steps.{clear_at}
use lib.ListN.{length}
use mathlib.Core.Path.{◌≡◌}
use Rattle.gaps.proofs.pass.from_clear.Given as goal

abbrev pub invariant-loop-i : goal.invariant-loop-i
invariant-loop-i l = (l.i ≤ length l.s) × (clear_at l.s l.i ≡ clear_at l.s l.from)

abbrev pub decreases-loop-i : goal.decreases-loop-i
decreases-loop-i l = length l.s - l.i

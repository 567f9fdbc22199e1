use Prim.Native.Nat.{◌+◌, ◌-◌, ◌<◌, ◌≤◌}
use mathlib.Core.Path.{◌≡◌}
use lib.ListN.{drop, length}
use Rattle.comments.specs.Blocks.{block_end, block_from}
use Rattle.comments.proofs.block.block_comment.Given as goal

abbrev pub invariant-loop-i : goal.invariant-loop-i
invariant-loop-i l = (l.i ≤ length l.s) × (0 < l.level) × (l.level ≤ l.i + 1) × (block_from (drop l.i l.s) l.level l.i ≡ block_end l.s)

abbrev pub decreases-loop-i : goal.decreases-loop-i
decreases-loop-i l = length l.s - l.i

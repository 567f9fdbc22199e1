use Prim.Native.Nat.{◌-◌}
use mathlib.Core.Path.{◌≡◌}
use lib.ListN.{length}
use Rattle.lines.specs.Out.{put}
use Rattle.arrive.specs.inner.Said.{tape_lines}
use Rattle.arrive.proofs.LineLaws.{lines_left}
use Rattle.arrive.proofs.said.entries.Given as goal

abbrev pub invariant-loop-i : goal.invariant-loop-i
invariant-loop-i l = (length l.o ≡ length l.initial.o) × (put (l.o, l.to) (lines_left l.tape l.n l.i) ≡ put (l.initial.o, l.at) (tape_lines l.tape l.n))

abbrev pub decreases-loop-i : goal.decreases-loop-i
decreases-loop-i l = l.n - l.i

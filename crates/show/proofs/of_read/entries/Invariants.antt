use Prim.Native.Nat.{◌-◌}
use mathlib.Core.Path.{◌≡◌}
use lib.ListN.{length}
use Rattle.lines.specs.Out.{put}
use Rattle.show.specs.Readings.{tape_text}
use Rattle.show.proofs.ShownLaws.{tape_left}
use Rattle.show.proofs.of_read.entries.Given as goal

abbrev pub invariant-loop-i : goal.invariant-loop-i
invariant-loop-i l = (length l.o ≡ length l.initial.o) × (put (l.o, l.to) (tape_left l.between l.tape l.n l.i) ≡ put (l.initial.o, l.at) (tape_text l.between l.tape l.n))

abbrev pub decreases-loop-i : goal.decreases-loop-i
decreases-loop-i l = l.n - l.i

use Prim.Native.Nat.{◌-◌}
use mathlib.Core.Path.{◌≡◌}
use lib.ListN.{length, drop}
use Rattle.lines.specs.Out.{put}
use Rattle.explain.specs.Excerpts.{caret_text}
use Rattle.explain.proofs.excerpt.caret.Given as goal

abbrev pub invariant-loop-i : goal.invariant-loop-i
invariant-loop-i l = (l.i-end ≡ length l.before) × (length l.o ≡ length l.initial.o) × (put (l.o, l.to) (caret_text (drop l.i l.before)) ≡ put (l.initial.o, l.at) (caret_text l.before))

abbrev pub decreases-loop-i : goal.decreases-loop-i
decreases-loop-i l = l.i-end - l.i

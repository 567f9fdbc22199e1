use Prim.Native.Nat.{◌≤◌}
use mathlib.Core.Path.{◌≡◌}
use lib.ListN.{length, drop}
use Rattle.lines.specs.Out.{put}
use Rattle.explain.specs.Excerpts.{characters_text}
use Rattle.explain.proofs.excerpt.characters.Given as goal

abbrev pub invariant-loop-i : goal.invariant-loop-i
invariant-loop-i l = (length l.o ≡ length l.initial.o) × (l.i ≤ length l.s) × (put (l.o, l.to) (characters_text l.left (drop l.i l.s)) ≡ put (l.initial.o, l.at) (characters_text 120 l.s))

abbrev pub decreases-loop-i : goal.decreases-loop-i
decreases-loop-i l = l.left

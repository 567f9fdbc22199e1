use mathlib.Core.Path.{◌≡◌}
use lib.ListN.{length, drop}
use Rattle.lines.specs.Out.{put}
use Rattle.show.specs.Walks.{words_text}
use Rattle.show.proofs.of_walk.links.Given as goal

abbrev pub invariant-loop-n : goal.invariant-loop-n
invariant-loop-n l = (length l.o ≡ length l.initial.o) × (put (l.o, l.to) (words_text (drop l.n-index l.s)) ≡ put (l.initial.o, l.initial.to) (words_text l.s))

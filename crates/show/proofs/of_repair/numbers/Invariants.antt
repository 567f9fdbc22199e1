use mathlib.Core.Path.{◌≡◌}
use lib.ListN.{length, drop}
use Rattle.lines.specs.Out.{put}
use Rattle.show.specs.Repairs.{numbers_text}
use Rattle.show.proofs.ShownLaws.{numbers_behind}
use Rattle.show.proofs.of_repair.numbers.Given as goal

abbrev pub invariant-loop-n : goal.invariant-loop-n
invariant-loop-n l = (length l.o ≡ length l.initial.o) × (put (l.o, l.to) (numbers_behind l.between (drop l.n-index l.s)) ≡ put (l.initial.o, l.at) (numbers_text l.s))

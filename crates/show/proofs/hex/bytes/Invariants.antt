use mathlib.Core.Path.{◌≡◌}
use lib.ListN.{length, drop}
use Rattle.lines.specs.Out.{put}
use Rattle.show.specs.Hexes.{hex_text}
use Rattle.show.proofs.hex.bytes.Given as goal

abbrev pub invariant-loop-b : goal.invariant-loop-b
invariant-loop-b l = (length l.o ≡ length l.initial.o) × (put (l.o, l.to) (hex_text (drop l.b-index l.s)) ≡ put (l.initial.o, l.at) (hex_text l.s))

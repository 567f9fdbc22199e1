use Prim.Native.Nat.{min}
use mathlib.Core.Path.{◌≡◌}
use lib.ListN.{length, drop}
use Rattle.lines.specs.Out.{put}
use Rattle.show.specs.Many.{codeds_text}
use Rattle.show.proofs.many.integers.Given as goal

abbrev pub invariant-loop-i : goal.invariant-loop-i
invariant-loop-i l =
    (l.i-end ≡ min (length l.magnitudes) (length l.codes)) × (length l.o ≡ length l.initial.o) × (put (l.o, l.to) (codeds_text l.between (drop l.i l.magnitudes) (drop l.i l.codes)) ≡ put (l.initial.o, l.initial.to) (codeds_text 32 l.magnitudes l.codes))

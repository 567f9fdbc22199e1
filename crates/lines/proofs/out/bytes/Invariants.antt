use mathlib.Core.Path.{◌≡◌}
use lib.ListN.{length, drop}
use Rattle.lines.specs.Out.{put}
use Rattle.lines.proofs.out.bytes.Given as goal

abbrev pub invariant-loop-b : goal.invariant-loop-b
invariant-loop-b l = (length l.out ≡ length l.initial.out) × (put (l.out, l.to) (drop l.b-index l.s) ≡ put (l.initial.out, l.at) l.s)

use mathlib.Core.Path.{◌≡◌}
use Rattle.settled.specs.Settled.{stop_from}
use Rattle.settled.proofs.bytes.stops_from.Given as goal

abbrev pub invariant-loop-i : goal.invariant-loop-i
invariant-loop-i l = stop_from l.i l.p ≡ stop_from l.n l.p

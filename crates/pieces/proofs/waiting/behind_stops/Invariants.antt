use Prim.Native.Nat.{◌≤◌}
use mathlib.Core.Path.{◌≡◌}
use lib.ListN.{drop}
use Rattle.reading.specs.Kept.{last_quiet}
use Rattle.settled.specs.Bytes.{stops_byte}
use Rattle.pieces.proofs.waiting.behind_stops.Given as goal

abbrev pub invariant-loop-i : goal.invariant-loop-i
invariant-loop-i l = (l.from ≤ l.i) × (last_quiet stops_byte (drop l.i l.part) ≡ 0)

use Prim.Native.Nat.{◌+◌}
use mathlib.Core.Path.{◌≡◌}
use lib.ListN.{drop}
use Rattle.text.specs.Runs.{run}
use Rattle.pieces.proofs.StopLaws.{plain_byte}
use Rattle.pieces.proofs.waiting.next_stop.Given as goal

abbrev pub invariant-loop-i : goal.invariant-loop-i
invariant-loop-i l = l.i + run plain_byte (drop l.i l.part) ≡ l.from + run plain_byte (drop l.from l.part)

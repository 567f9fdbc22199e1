use Prim.Native.Nat.{◌≤◌}
use mathlib.Core.Path.{◌≡◌}
use lib.ListN.{length, take}
use Rattle.lines.specs.Over.{over}
use Rattle.words.specs.Hex.{pairs}
use Rattle.words.proofs.hex.pairs.Given as goal

abbrev pub invariant-loop-i : goal.invariant-loop-i
invariant-loop-i l = (l.i ≤ length (pairs l.s)) × (l.i ≤ length l.initial.buf) × (length l.buf ≡ length l.initial.buf) × (l.buf ≡ over (take l.i (pairs l.s)) l.initial.buf)

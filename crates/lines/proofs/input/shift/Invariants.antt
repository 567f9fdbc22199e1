use Prim.Native.Nat.{◌-◌}
use mathlib.Core.Path.{◌≡◌}
use lib.ListN.{length, take, drop}
use Rattle.lines.specs.Over.{over}
use Rattle.lines.proofs.input.shift.Given as goal

abbrev pub invariant-loop-i : goal.invariant-loop-i
invariant-loop-i l = (l.i-end ≡ l.fn.to - l.from) × (length l.buf ≡ length l.initial.buf) × (l.buf ≡ over (take l.i (drop l.from l.initial.buf)) l.initial.buf)

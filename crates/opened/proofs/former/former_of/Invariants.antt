use Prim.Native.Nat.{◌+◌, ◌≤◌}
use mathlib.Core.Path.{◌≡◌}
use Rattle.opened.specs.Former.{former_from, former_of}
use Rattle.opened.proofs.former.former_of.Given as goal

abbrev pub invariant-loop-i : goal.invariant-loop-i
invariant-loop-i l = (l.closed + l.i ≤ l.n) × (former_from l.text l.tape l.n l.i l.closed ≡ former_of l.text l.tape l.n)

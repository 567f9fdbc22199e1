use Prim.Native.Nat.{◌-◌, ◌≤◌}
use mathlib.Core.List.{◌++◌}
use mathlib.Core.Path.{◌≡◌}
use lib.ListN.{drop, length, take}
use Rattle.strings.proofs.decode.copy.Given as goal

abbrev pub invariant-loop-i : goal.invariant-loop-i
invariant-loop-i l = (length l.out ≡ length l.initial.out) × (l.i ≤ length l.t) × (length l.t ≤ length l.initial.out) × (l.out ≡ take l.i l.t ++ drop l.i l.initial.out)

abbrev pub decreases-loop-i : goal.decreases-loop-i
decreases-loop-i l = length l.t - l.i

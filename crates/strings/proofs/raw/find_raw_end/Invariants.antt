use Prim.Native.Nat.{◌+◌, ◌-◌, ◌≤◌}
use mathlib.Core.Path.{◌≡◌}
use lib.ListN.{drop, length}
use Rattle.strings.specs.Raw.{raw_end}
use Rattle.strings.proofs.raw.find_raw_end.Given as goal

abbrev pub invariant-loop-i : goal.invariant-loop-i
invariant-loop-i l = (l.i ≤ length l.t) × (l.i + raw_end l.n (drop l.i l.t) ≡ raw_end l.n l.t)

abbrev pub decreases-loop-i : goal.decreases-loop-i
decreases-loop-i l = length l.t - l.i

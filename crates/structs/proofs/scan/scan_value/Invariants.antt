use Prim.Native.Nat.{◌+◌, ◌-◌, ◌≤◌}
use mathlib.Core.Path.{◌≡◌}
use lib.ListN.{drop, length}
use Rattle.structs.specs.Scan.{scan_from, scan_of}
use Rattle.structs.proofs.scan.scan_value.Given as goal

abbrev pub invariant-loop-n : goal.invariant-loop-n
invariant-loop-n l = (l.i ≤ length l.s) × (1 ≤ l.braces) × (l.braces ≤ l.i + 1) × (scan_from (drop l.i l.s) 0 l.braces l.i ≡ scan_of l.s l.at)

abbrev pub decreases-loop-n : goal.decreases-loop-n
decreases-loop-n l = length l.s - l.i

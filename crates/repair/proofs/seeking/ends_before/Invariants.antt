use Prim.Native.Nat.{◌-◌, ◌≤◌}
use Rattle.repair.specs.Repair.{ends_before, leading}
use Rattle.rows.specs.Rows.{entries_of}
use Rattle.repair.proofs.seeking.ends_before.Given as goal

abbrev pub invariant-loop-low : goal.invariant-loop-low
invariant-loop-low l = (l.low ≤ leading (ends_before l.q) (entries_of l.count l.tape)) × (leading (ends_before l.q) (entries_of l.count l.tape) ≤ l.high) × (l.high ≤ l.count)

abbrev pub decreases-loop-low : goal.decreases-loop-low
decreases-loop-low l = l.high - l.low

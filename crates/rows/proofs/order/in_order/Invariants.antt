use Prim.Native.Nat.{◌-◌, ◌≤◌}
use Rattle.rows.proofs.OrderLaws.{Left}
use Rattle.rows.specs.Order.{in_order}
use Rattle.rows.specs.Rows.{entries_of}
use Rattle.rows.proofs.order.in_order.Given as goal

abbrev pub invariant-loop-i : goal.invariant-loop-i
invariant-loop-i l = (l.i ≤ l.count) × Left l.tape l.count l.limit (in_order (entries_of l.count l.tape) l.limit) l.i l.at

abbrev pub decreases-loop-i : goal.decreases-loop-i
decreases-loop-i l = l.count - l.i

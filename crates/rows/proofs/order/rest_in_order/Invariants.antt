use Prim.Native.Nat.{◌*◌, ◌-◌}
use lib.ListN.{drop}
use Rattle.rows.proofs.OrderLaws.{Left}
use Rattle.rows.specs.Order.{in_order_from}
use Rattle.rows.specs.Rows.{entries_of, width}
use Rattle.rows.proofs.order.rest_in_order.Given as goal

abbrev pub invariant-loop-i : goal.invariant-loop-i
invariant-loop-i l = Left l.tape l.count l.limit (in_order_from (entries_of (l.count - l.from) (drop (width * l.from) l.tape)) l.behind l.limit) l.i l.at

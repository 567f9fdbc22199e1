use Prim.Native.Nat.{◌*◌, ◌-◌}
use native.Mathlib.Omega.{arith}
use mathlib.Core.Path.{◌∙◌, refl, sym}
use lib.ListN.{drop}
use Rattle.rows.proofs.OrderLaws.{order_bad, order_done, order_on}
use Rattle.rows.specs.Order.{in_order_from}
use Rattle.rows.specs.Rows.{entries_of, width}
use Rattle.rows.proofs.order.rest_in_order.Goals as goal

pub loop-i-init : goal.loop-i-init
loop-i-init c = refl

pub returns-then-not-is_orderly : goal.returns-then-not-is_orderly
returns-then-not-is_orderly c = order_bad c.args.tape.now c.args.count c.args.limit (in_order_from (entries_of (c.args.count - c.args.from) (drop (width * c.args.from) c.args.tape.now)) c.args.behind c.args.limit) c.loop-i.i c.loop-i.at c.loop-i.invariant _ (omega arith) c.entry-e.ensures (sym c.is_orderly.ensures ∙ c.if-not-is_orderly.true)

pub loop-i-preserved : goal.loop-i-preserved
loop-i-preserved c = order_on c.args.tape.now c.args.count c.args.limit (in_order_from (entries_of (c.args.count - c.args.from) (drop (width * c.args.from) c.args.tape.now)) c.args.behind c.args.limit) c.loop-i.i c.loop-i.at c.loop-i.invariant _ (omega arith) c.entry-e.ensures (sym c.is_orderly.ensures ∙ c.if-not-is_orderly.false)

pub returns : goal.returns
returns c = c.ends_within.ensures ∙ order_done c.args.tape.now c.args.count c.args.limit (in_order_from (entries_of (c.args.count - c.args.from) (drop (width * c.args.from) c.args.tape.now)) c.args.behind c.args.limit) c.loop-i.i c.loop-i.at c.loop-i.invariant (omega arith)

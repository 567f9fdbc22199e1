use native.Mathlib.Omega.{arith}
use mathlib.Core.Path.{◌∙◌, sym}
use Rattle.rows.proofs.OrderLaws.{eight_bad, eight_on, four_bad, order_starts}
use Rattle.rows.specs.Order.{in_order}
use Rattle.rows.specs.Rows.{entries_of}
use Rattle.rows.proofs.order.in_order.Goals as goal

pub loop-i-init : goal.loop-i-init
loop-i-init c = (omega arith, order_starts c.args.tape.now c.args.count c.args.limit)

pub returns-then-not-four_orderly : goal.returns-then-not-four_orderly
returns-then-not-four_orderly c = four_bad c.args.tape.now c.args.count c.args.limit (in_order (entries_of c.args.count c.args.tape.now) c.args.limit) c.loop-i.i c.loop-i.at c.loop-i.invariant.1 (omega (arith)) (sym c.four_orderly.ensures ∙ c.if-not-four_orderly.true)

pub returns-then-not-four_orderly-2 : goal.returns-then-not-four_orderly-2
returns-then-not-four_orderly-2 c = eight_bad c.args.tape.now c.args.count c.args.limit (in_order (entries_of c.args.count c.args.tape.now) c.args.limit) c.loop-i.i c.loop-i.at c.loop-i.invariant.1 (omega (arith)) _ c.entry-fourth.ensures (sym c.four_orderly.ensures ∙ c.if-not-four_orderly.false) (sym c.four_orderly-in-loop-i.ensures ∙ c.if-not-four_orderly-2.true)

pub loop-i-preserved : goal.loop-i-preserved
loop-i-preserved c = (omega (arith), eight_on c.args.tape.now c.args.count c.args.limit (in_order (entries_of c.args.count c.args.tape.now) c.args.limit) c.loop-i.i c.loop-i.at c.loop-i.invariant.1 (omega (arith)) _ c.entry-fourth.ensures (sym c.four_orderly.ensures ∙ c.if-not-four_orderly.false) (sym c.four_orderly-in-loop-i.ensures ∙ c.if-not-four_orderly-2.false) _ c.entry-eighth.ensures)

pub returns : goal.returns
returns c = c.rest_in_order.ensures ∙ c.loop-i.invariant.1

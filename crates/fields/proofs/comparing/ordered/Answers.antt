use native.Mathlib.Omega.{arith}
use mathlib.Core.Path.{◌∙◌, refl, sym}
use Rattle.fields.proofs.SameLaws.{order_above, order_below, order_end, order_long, order_more, order_short}
use Rattle.fields.proofs.comparing.ordered.Goals as goal

pub loop-i-init : goal.loop-i-init
loop-i-init c = refl

pub returns-then-b-i : goal.returns-then-b-i
returns-then-b-i c = sym (order_long c.args.a.now c.args.b.now c.loop-i.i (omega arith) c.if-b-i.true) ∙ c.loop-i.invariant

pub returns-then-a-i : goal.returns-then-a-i
returns-then-a-i c = sym (order_below c.args.a.now c.args.b.now c.loop-i.i (omega arith) (omega arith) c.if-a-i.true) ∙ c.loop-i.invariant

pub returns-then-b-i-2 : goal.returns-then-b-i-2
returns-then-b-i-2 c = sym (order_above c.args.a.now c.args.b.now c.loop-i.i (omega arith) (omega arith) c.if-b-i-2.true) ∙ c.loop-i.invariant

pub loop-i-preserved : goal.loop-i-preserved
loop-i-preserved c = sym (order_more c.args.a.now c.args.b.now c.loop-i.i (omega arith) (omega arith) c.if-a-i.false c.if-b-i-2.false) ∙ c.loop-i.invariant

pub returns-then-a-b : goal.returns-then-a-b
returns-then-a-b c = sym (order_short c.args.a.now c.args.b.now c.loop-i.i (omega arith) (omega arith)) ∙ c.loop-i.invariant

pub returns : goal.returns
returns c = sym (order_end c.args.a.now c.args.b.now c.loop-i.i (omega arith) (omega arith)) ∙ c.loop-i.invariant

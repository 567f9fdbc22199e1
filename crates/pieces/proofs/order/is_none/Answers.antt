use Rattle.pieces.specs.Orders.{is_none}
use borrow.Author.Tests.{eq-eqb, ne_eqb}
use Rattle.pieces.proofs.order.is_none.Goals as goal

pub returns-then-r-ne0 : goal.returns-then-r-ne0
unfolding is_none
returns-then-r-ne0 c = simp (ne_eqb _ _ c.if-r-ne0.true)

pub returns-then-r-ne0-2 : goal.returns-then-r-ne0-2
unfolding is_none
returns-then-r-ne0-2 c = simp (eq-eqb _ _ c.if-r-ne0.false, ne_eqb _ _ c.if-r-ne0-2.true)

pub returns-then-r-ne0-3 : goal.returns-then-r-ne0-3
unfolding is_none
returns-then-r-ne0-3 c = simp (eq-eqb _ _ c.if-r-ne0.false, eq-eqb _ _ c.if-r-ne0-2.false, ne_eqb _ _ c.if-r-ne0-3.true)

pub returns : goal.returns
unfolding is_none
returns c = simp (eq-eqb _ _ c.if-r-ne0.false, eq-eqb _ _ c.if-r-ne0-2.false, eq-eqb _ _ c.if-r-ne0-3.false)

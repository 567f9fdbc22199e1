use borrow.Author.Tests.{eq-eqb, ne_eqb}
use Rattle.tokens.specs.Shapes.{behind_r}
use Rattle.tokens.proofs.shape.behind_r.Goals as goal

pub returns-then-b-eq34 : goal.returns-then-b-eq34
unfolding behind_r
returns-then-b-eq34 c = simp (eq-eqb _ _ c.if-b-eq34.true)

pub returns-then-b-ne35 : goal.returns-then-b-ne35
unfolding behind_r
returns-then-b-ne35 c = simp (ne_eqb _ _ c.if-b-eq34.false, ne_eqb _ _ c.if-b-ne35.true)

pub returns-then-c-eq34 : goal.returns-then-c-eq34
unfolding behind_r
returns-then-c-eq34 c = simp (ne_eqb _ _ c.if-b-eq34.false, eq-eqb _ _ c.if-b-ne35.false, eq-eqb _ _ c.if-c-eq34.true)

pub returns-then-c-eq35 : goal.returns-then-c-eq35
unfolding behind_r
returns-then-c-eq35 c = simp (ne_eqb _ _ c.if-b-eq34.false, eq-eqb _ _ c.if-b-ne35.false, ne_eqb _ _ c.if-c-eq34.false, eq-eqb _ _ c.if-c-eq35.true)

pub returns : goal.returns
unfolding behind_r
returns c = simp (ne_eqb _ _ c.if-b-eq34.false, eq-eqb _ _ c.if-b-ne35.false, ne_eqb _ _ c.if-c-eq34.false, ne_eqb _ _ c.if-c-eq35.false)

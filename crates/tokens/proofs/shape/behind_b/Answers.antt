use borrow.Author.Tests.{eq-eqb, ne_eqb}
use Rattle.tokens.specs.Shapes.{behind_b}
use Rattle.tokens.proofs.shape.behind_b.Goals as goal

pub returns-then-b-eq39 : goal.returns-then-b-eq39
unfolding behind_b
returns-then-b-eq39 c = simp (eq-eqb _ _ c.if-b-eq39.true)

pub returns-then-b-eq34 : goal.returns-then-b-eq34
unfolding behind_b
returns-then-b-eq34 c = simp (ne_eqb _ _ c.if-b-eq39.false, eq-eqb _ _ c.if-b-eq34.true)

pub returns-then-b-ne114 : goal.returns-then-b-ne114
unfolding behind_b
returns-then-b-ne114 c = simp (ne_eqb _ _ c.if-b-eq39.false, ne_eqb _ _ c.if-b-eq34.false, ne_eqb _ _ c.if-b-ne114.true)

pub returns-then-c-eq34 : goal.returns-then-c-eq34
unfolding behind_b
returns-then-c-eq34 c = simp (ne_eqb _ _ c.if-b-eq39.false, ne_eqb _ _ c.if-b-eq34.false, eq-eqb _ _ c.if-b-ne114.false, eq-eqb _ _ c.if-c-eq34.true)

pub returns-then-c-eq35 : goal.returns-then-c-eq35
unfolding behind_b
returns-then-c-eq35 c = simp (ne_eqb _ _ c.if-b-eq39.false, ne_eqb _ _ c.if-b-eq34.false, eq-eqb _ _ c.if-b-ne114.false, ne_eqb _ _ c.if-c-eq34.false, eq-eqb _ _ c.if-c-eq35.true)

pub returns : goal.returns
unfolding behind_b
returns c = simp (ne_eqb _ _ c.if-b-eq39.false, ne_eqb _ _ c.if-b-eq34.false, eq-eqb _ _ c.if-b-ne114.false, ne_eqb _ _ c.if-c-eq34.false, ne_eqb _ _ c.if-c-eq35.false)

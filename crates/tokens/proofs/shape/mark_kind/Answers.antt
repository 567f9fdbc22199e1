use borrow.Author.Tests.{eq-eqb, ne_eqb}
use Rattle.tokens.specs.Shapes.{mark_kind}
use Rattle.tokens.proofs.shape.mark_kind.Goals as goal

pub returns-then-a-eq40 : goal.returns-then-a-eq40
unfolding mark_kind
returns-then-a-eq40 c = simp (eq-eqb _ _ c.if-a-eq40.true)

pub returns-then-a-eq41 : goal.returns-then-a-eq41
unfolding mark_kind
returns-then-a-eq41 c = simp (ne_eqb _ _ c.if-a-eq40.false, eq-eqb _ _ c.if-a-eq41.true)

pub returns-then-a-eq91 : goal.returns-then-a-eq91
unfolding mark_kind
returns-then-a-eq91 c = simp (ne_eqb _ _ c.if-a-eq40.false, ne_eqb _ _ c.if-a-eq41.false, eq-eqb _ _ c.if-a-eq91.true)

pub returns-then-a-eq93 : goal.returns-then-a-eq93
unfolding mark_kind
returns-then-a-eq93 c = simp (ne_eqb _ _ c.if-a-eq40.false, ne_eqb _ _ c.if-a-eq41.false, ne_eqb _ _ c.if-a-eq91.false, eq-eqb _ _ c.if-a-eq93.true)

pub returns-then-a-eq123 : goal.returns-then-a-eq123
unfolding mark_kind
returns-then-a-eq123 c = simp (ne_eqb _ _ c.if-a-eq40.false, ne_eqb _ _ c.if-a-eq41.false, ne_eqb _ _ c.if-a-eq91.false, ne_eqb _ _ c.if-a-eq93.false, eq-eqb _ _ c.if-a-eq123.true)

pub returns-then-a-eq125 : goal.returns-then-a-eq125
unfolding mark_kind
returns-then-a-eq125 c = simp (ne_eqb _ _ c.if-a-eq40.false, ne_eqb _ _ c.if-a-eq41.false, ne_eqb _ _ c.if-a-eq91.false, ne_eqb _ _ c.if-a-eq93.false, ne_eqb _ _ c.if-a-eq123.false, eq-eqb _ _ c.if-a-eq125.true)

pub returns-then-a-eq44 : goal.returns-then-a-eq44
unfolding mark_kind
returns-then-a-eq44 c = simp (ne_eqb _ _ c.if-a-eq40.false, ne_eqb _ _ c.if-a-eq41.false, ne_eqb _ _ c.if-a-eq91.false, ne_eqb _ _ c.if-a-eq93.false, ne_eqb _ _ c.if-a-eq123.false, ne_eqb _ _ c.if-a-eq125.false, eq-eqb _ _ c.if-a-eq44.true)

pub returns-then-a-eq58 : goal.returns-then-a-eq58
unfolding mark_kind
returns-then-a-eq58 c = simp (ne_eqb _ _ c.if-a-eq40.false, ne_eqb _ _ c.if-a-eq41.false, ne_eqb _ _ c.if-a-eq91.false, ne_eqb _ _ c.if-a-eq93.false, ne_eqb _ _ c.if-a-eq123.false, ne_eqb _ _ c.if-a-eq125.false, ne_eqb _ _ c.if-a-eq44.false, eq-eqb _ _ c.if-a-eq58.true)

pub returns : goal.returns
unfolding mark_kind
returns c = simp (ne_eqb _ _ c.if-a-eq40.false, ne_eqb _ _ c.if-a-eq41.false, ne_eqb _ _ c.if-a-eq91.false, ne_eqb _ _ c.if-a-eq93.false, ne_eqb _ _ c.if-a-eq123.false, ne_eqb _ _ c.if-a-eq125.false, ne_eqb _ _ c.if-a-eq44.false, ne_eqb _ _ c.if-a-eq58.false)

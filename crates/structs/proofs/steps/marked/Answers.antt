use borrow.Author.Tests.{eq-eqb, ne_eqb}
use Rattle.structs.specs.Scan.{marked_by}
use Rattle.structs.proofs.steps.marked.Goals as goal

pub returns-then-c-eq40 : goal.returns-then-c-eq40
unfolding marked_by
returns-then-c-eq40 c = simp (eq-eqb _ _ c.if-c-eq40.true)

pub returns-then-c-eq91 : goal.returns-then-c-eq91
unfolding marked_by
returns-then-c-eq91 c = simp (ne_eqb _ _ c.if-c-eq40.false, eq-eqb _ _ c.if-c-eq91.true)

pub returns-then-c-eq123 : goal.returns-then-c-eq123
unfolding marked_by
returns-then-c-eq123 c = simp (ne_eqb _ _ c.if-c-eq40.false, ne_eqb _ _ c.if-c-eq91.false, eq-eqb _ _ c.if-c-eq123.true)

pub returns-then-c-eq41 : goal.returns-then-c-eq41
unfolding marked_by
returns-then-c-eq41 c = simp (ne_eqb _ _ c.if-c-eq40.false, ne_eqb _ _ c.if-c-eq91.false, ne_eqb _ _ c.if-c-eq123.false, eq-eqb _ _ c.if-c-eq41.true)

pub returns-then-c-eq93 : goal.returns-then-c-eq93
unfolding marked_by
returns-then-c-eq93 c = simp (ne_eqb _ _ c.if-c-eq40.false, ne_eqb _ _ c.if-c-eq91.false, ne_eqb _ _ c.if-c-eq123.false, ne_eqb _ _ c.if-c-eq41.false, eq-eqb _ _ c.if-c-eq93.true)

pub returns-then-c-eq125 : goal.returns-then-c-eq125
unfolding marked_by
returns-then-c-eq125 c = simp (ne_eqb _ _ c.if-c-eq40.false, ne_eqb _ _ c.if-c-eq91.false, ne_eqb _ _ c.if-c-eq123.false, ne_eqb _ _ c.if-c-eq41.false, ne_eqb _ _ c.if-c-eq93.false, eq-eqb _ _ c.if-c-eq125.true)

pub returns-then-c-eq44 : goal.returns-then-c-eq44
unfolding marked_by
returns-then-c-eq44 c = simp (ne_eqb _ _ c.if-c-eq40.false, ne_eqb _ _ c.if-c-eq91.false, ne_eqb _ _ c.if-c-eq123.false, ne_eqb _ _ c.if-c-eq41.false, ne_eqb _ _ c.if-c-eq93.false, ne_eqb _ _ c.if-c-eq125.false, eq-eqb _ _ c.if-c-eq44.true)

pub returns : goal.returns
unfolding marked_by
returns c = simp (ne_eqb _ _ c.if-c-eq40.false, ne_eqb _ _ c.if-c-eq91.false, ne_eqb _ _ c.if-c-eq123.false, ne_eqb _ _ c.if-c-eq41.false, ne_eqb _ _ c.if-c-eq93.false, ne_eqb _ _ c.if-c-eq125.false, ne_eqb _ _ c.if-c-eq44.false)

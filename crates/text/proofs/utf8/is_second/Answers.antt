use borrow.Author.Tests.{eq-eqb, ne_eqb}
use Rattle.text.specs.Utf8.{second_byte}
use Rattle.text.proofs.utf8.is_second.Goals as goal

pub returns-then-a-eq224 : goal.returns-then-a-eq224
unfolding second_byte
returns-then-a-eq224 c = simp (eq-eqb _ _ c.if-a-eq224.true, c.is_within.ensures)

pub returns-then-a-eq237 : goal.returns-then-a-eq237
unfolding second_byte
returns-then-a-eq237 c = simp (ne_eqb _ _ c.if-a-eq224.false, eq-eqb _ _ c.if-a-eq237.true, c.is_within-then-a-eq237.ensures)

pub returns-then-a-eq240 : goal.returns-then-a-eq240
unfolding second_byte
returns-then-a-eq240 c = simp (ne_eqb _ _ c.if-a-eq224.false, ne_eqb _ _ c.if-a-eq237.false, eq-eqb _ _ c.if-a-eq240.true, c.is_within-then-a-eq240.ensures)

pub returns-then-a-eq244 : goal.returns-then-a-eq244
unfolding second_byte
returns-then-a-eq244 c = simp (ne_eqb _ _ c.if-a-eq224.false, ne_eqb _ _ c.if-a-eq237.false, ne_eqb _ _ c.if-a-eq240.false, eq-eqb _ _ c.if-a-eq244.true, c.is_within-then-a-eq244.ensures)

pub returns : goal.returns
unfolding second_byte
returns c = simp (ne_eqb _ _ c.if-a-eq224.false, ne_eqb _ _ c.if-a-eq237.false, ne_eqb _ _ c.if-a-eq240.false, ne_eqb _ _ c.if-a-eq244.false, c.is_within-2.ensures)

use borrow.Author.Tests.{eq-eqb, ne_eqb}
use Rattle.text.specs.Classes.{ascii_raw}
use Rattle.text.proofs.classes.is_ascii_raw.Goals as goal

pub returns-then-c-eq46 : goal.returns-then-c-eq46
unfolding ascii_raw
returns-then-c-eq46 c = simp (eq-eqb _ _ c.if-c-eq46.true)

pub returns-then-c-eq43 : goal.returns-then-c-eq43
unfolding ascii_raw
returns-then-c-eq43 c = simp (ne_eqb _ _ c.if-c-eq46.false, eq-eqb _ _ c.if-c-eq43.true)

pub returns-then-c-eq45 : goal.returns-then-c-eq45
unfolding ascii_raw
returns-then-c-eq45 c = simp (ne_eqb _ _ c.if-c-eq46.false, ne_eqb _ _ c.if-c-eq43.false, eq-eqb _ _ c.if-c-eq45.true)

pub returns : goal.returns
unfolding ascii_raw
returns c = simp (ne_eqb _ _ c.if-c-eq46.false, ne_eqb _ _ c.if-c-eq43.false, ne_eqb _ _ c.if-c-eq45.false, c.is_ascii_next.ensures)

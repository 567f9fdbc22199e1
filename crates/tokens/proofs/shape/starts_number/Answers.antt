use borrow.Author.Tests.{eq-eqb, le-ltb, lt-ltb, ne_eqb}
use Rattle.tokens.specs.Shapes.{starts_number}
use Rattle.tokens.proofs.shape.starts_number.Goals as goal

pub returns-then-a-eq43 : goal.returns-then-a-eq43
unfolding starts_number
returns-then-a-eq43 c = simp (eq-eqb _ _ c.if-a-eq43.true)

pub returns-then-a-eq45 : goal.returns-then-a-eq45
unfolding starts_number
returns-then-a-eq45 c = simp (ne_eqb _ _ c.if-a-eq43.false, eq-eqb _ _ c.if-a-eq45.true)

pub returns-then-a-eq46 : goal.returns-then-a-eq46
unfolding starts_number
returns-then-a-eq46 c = simp (ne_eqb _ _ c.if-a-eq43.false, ne_eqb _ _ c.if-a-eq45.false, eq-eqb _ _ c.if-a-eq46.true)

pub returns-then-a-lt48 : goal.returns-then-a-lt48
unfolding starts_number
returns-then-a-lt48 c = simp (ne_eqb _ _ c.if-a-eq43.false, ne_eqb _ _ c.if-a-eq45.false, ne_eqb _ _ c.if-a-eq46.false, lt-ltb _ _ c.if-a-lt48.true)

pub returns-then-a-gt57 : goal.returns-then-a-gt57
unfolding starts_number
returns-then-a-gt57 c = simp (ne_eqb _ _ c.if-a-eq43.false, ne_eqb _ _ c.if-a-eq45.false, ne_eqb _ _ c.if-a-eq46.false, le-ltb _ _ c.if-a-lt48.false, lt-ltb _ _ c.if-a-gt57.true)

pub returns : goal.returns
unfolding starts_number
returns c = simp (ne_eqb _ _ c.if-a-eq43.false, ne_eqb _ _ c.if-a-eq45.false, ne_eqb _ _ c.if-a-eq46.false, le-ltb _ _ c.if-a-lt48.false, le-ltb _ _ c.if-a-gt57.false)

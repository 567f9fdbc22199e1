use borrow.Author.Tests.{eq-eqb, ne_eqb}
use Rattle.text.proofs.ClassLaws.{above, below, inside}
use Rattle.sarridok.proofs.items.names_integer.Goals as goal

pub returns-then-e-ne-INTEGER : goal.returns-then-e-ne-INTEGER
returns-then-e-ne-INTEGER c = simp (ne_eqb _ _ c.if-e-ne-INTEGER.true)

pub returns-then-e-lt1 : goal.returns-then-e-lt1
returns-then-e-lt1 c = simp (eq-eqb _ _ c.if-e-ne-INTEGER.false, below 1 8 _ c.if-e-lt1.true)

pub returns-then-e-gt8 : goal.returns-then-e-gt8
returns-then-e-gt8 c = simp (eq-eqb _ _ c.if-e-ne-INTEGER.false, above 1 8 _ c.if-e-gt8.true)

pub returns : goal.returns
returns c = simp (eq-eqb _ _ c.if-e-ne-INTEGER.false, inside 1 8 _ c.if-e-lt1.false c.if-e-gt8.false)

use borrow.Author.Tests.{le-leb, le-ltb, lt-leb, lt-ltb}
use Rattle.rows.proofs.OrderLaws.{distance_off, distance_on}
use Rattle.rows.specs.Order.{orderly}
use Rattle.text.specs.Classes.{within}
use Rattle.rows.proofs.order.is_orderly.Goals as goal

pub returns-then-e-lt-OPEN_PAREN : goal.returns-then-e-lt-OPEN_PAREN
unfolding orderly within
returns-then-e-lt-OPEN_PAREN c = simp (lt-leb _ _ c.if-e-lt-OPEN_PAREN.true)

pub returns-then-e-gt-ATTRIBUTE : goal.returns-then-e-gt-ATTRIBUTE
unfolding orderly within
returns-then-e-gt-ATTRIBUTE c = simp (le-leb _ _ c.if-e-lt-OPEN_PAREN.false, lt-leb _ _ c.if-e-gt-ATTRIBUTE.true)

pub returns-then-e : goal.returns-then-e
unfolding orderly within
returns-then-e c = simp (le-leb _ _ c.if-e-lt-OPEN_PAREN.false, le-leb _ _ c.if-e-gt-ATTRIBUTE.false, le-ltb _ _ c.if-e.true)

pub returns-then-reached-e : goal.returns-then-reached-e
unfolding orderly within
returns-then-reached-e c =
    simp (le-leb _ _ c.if-e-lt-OPEN_PAREN.false, le-leb _ _ c.if-e-gt-ATTRIBUTE.false, lt-ltb _ _ c.if-e.false, distance_off c.args.at c.args.e.gap c.args.e.start c.if-reached-e.true)

pub returns : goal.returns
unfolding orderly within
returns c =
    simp (le-leb _ _ c.if-e-lt-OPEN_PAREN.false, le-leb _ _ c.if-e-gt-ATTRIBUTE.false, lt-ltb _ _ c.if-e.false, distance_on c.args.at c.args.e.gap c.args.e.start c.if-reached-e.false)

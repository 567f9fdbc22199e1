use Rattle.places.specs.Shown.{control}
use borrow.Author.Tests.{le-leb, lt-leb}
use Rattle.places.proofs.shown.is_control.Goals as goal

pub returns-then-c-le31 : goal.returns-then-c-le31
unfolding control
returns-then-c-le31 c = simp (le-leb _ _ c.if-c-le31.true)

pub returns : goal.returns
unfolding control
returns c = simp (lt-leb _ _ c.if-c-le31.false, c.is_between.ensures)

use borrow.Author.Tests.{lt-ltb, le-ltb}
use Rattle.fields.specs.inner.Order.{paired_of}
use Rattle.fields.proofs.again.paired.Goals as goal

pub returns-then-x-y : goal.returns-then-x-y
unfolding paired_of
returns-then-x-y c = rw (lt-ltb _ _ c.if-x-y.true) c.earlier.ensures

pub returns-then-y-x : goal.returns-then-y-x
unfolding paired_of
returns-then-y-x c = rw (le-ltb _ _ c.if-x-y.false, lt-ltb _ _ c.if-y-x.true) c.earlier-then-y-x.ensures

pub returns : goal.returns
unfolding paired_of
returns c = rw (le-ltb _ _ c.if-x-y.false, le-ltb _ _ c.if-y-x.false)

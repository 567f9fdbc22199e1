use borrow.Author.Tests.{le-leb, lt-leb}
use Rattle.integers.specs.Width.{first_fit}
use Rattle.integers.proofs.width.first_fit.Goals as goal

pub returns-then-magnitude-le255 : goal.returns-then-magnitude-le255
unfolding first_fit
returns-then-magnitude-le255 c = rw c.if-minus.false (simp (le-leb _ _ c.if-magnitude-le255.true))

pub returns-then-magnitude-le65535 : goal.returns-then-magnitude-le65535
unfolding first_fit
returns-then-magnitude-le65535 c = rw c.if-minus.false (simp (lt-leb _ _ c.if-magnitude-le255.false, le-leb _ _ c.if-magnitude-le65535.true))

pub returns-then-magnitude-le4294967295 : goal.returns-then-magnitude-le4294967295
unfolding first_fit
returns-then-magnitude-le4294967295 c = rw c.if-minus.false (simp (lt-leb _ _ c.if-magnitude-le255.false, lt-leb _ _ c.if-magnitude-le65535.false, le-leb _ _ c.if-magnitude-le4294967295.true))

pub returns : goal.returns
unfolding first_fit
returns c = rw c.if-minus.false (simp (lt-leb _ _ c.if-magnitude-le255.false, lt-leb _ _ c.if-magnitude-le65535.false, lt-leb _ _ c.if-magnitude-le4294967295.false))

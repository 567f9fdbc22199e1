use borrow.Author.Tests.{le-leb, lt-leb}
use Rattle.integers.specs.Width.{first_fit}
use Rattle.integers.proofs.width.first_signed.Goals as goal

pub returns-then-magnitude-le128 : goal.returns-then-magnitude-le128
unfolding first_fit
returns-then-magnitude-le128 c = simp (le-leb _ _ c.if-magnitude-le128.true)

pub returns-then-magnitude-le32768 : goal.returns-then-magnitude-le32768
unfolding first_fit
returns-then-magnitude-le32768 c = simp (lt-leb _ _ c.if-magnitude-le128.false, le-leb _ _ c.if-magnitude-le32768.true)

pub returns-then-magnitude-le2147483648 : goal.returns-then-magnitude-le2147483648
unfolding first_fit
returns-then-magnitude-le2147483648 c = simp (lt-leb _ _ c.if-magnitude-le128.false, lt-leb _ _ c.if-magnitude-le32768.false, le-leb _ _ c.if-magnitude-le2147483648.true)

pub returns : goal.returns
unfolding first_fit
returns c = simp (lt-leb _ _ c.if-magnitude-le128.false, lt-leb _ _ c.if-magnitude-le32768.false, lt-leb _ _ c.if-magnitude-le2147483648.false)

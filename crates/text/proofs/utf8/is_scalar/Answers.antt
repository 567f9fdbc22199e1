use borrow.Author.Tests.{le-leb, le-ltb, lt-leb, lt-ltb}
use Rattle.text.specs.Classes.{within}
use Rattle.text.specs.Utf8.{scalar}
use Rattle.text.proofs.utf8.is_scalar.Goals as goal

pub returns-then-c-lt55296 : goal.returns-then-c-lt55296
unfolding scalar within
returns-then-c-lt55296 c = simp (lt-ltb _ _ c.if-c-lt55296.true)

pub returns-then-c-ge57344 : goal.returns-then-c-ge57344
unfolding scalar within
returns-then-c-ge57344 c = simp (le-ltb _ _ c.if-c-lt55296.false, le-leb _ _ c.if-c-ge57344.true)

pub returns : goal.returns
unfolding scalar within
returns c = simp (le-ltb _ _ c.if-c-lt55296.false, lt-leb _ _ c.if-c-ge57344.false)

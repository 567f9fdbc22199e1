use borrow.Author.Tests.{le-ltb, lt-ltb}
use Rattle.text.specs.Utf8.{code_of4}
use Rattle.text.proofs.utf8.code.Goals as goal

pub returns-then-a-lt128 : goal.returns-then-a-lt128
unfolding code_of4
returns-then-a-lt128 c = simp (lt-ltb _ _ c.if-a-lt128.true)

pub returns-then-a-lt224 : goal.returns-then-a-lt224
unfolding code_of4
returns-then-a-lt224 c = simp (le-ltb _ _ c.if-a-lt128.false, lt-ltb _ _ c.if-a-lt224.true)

pub returns-then-a-lt240 : goal.returns-then-a-lt240
unfolding code_of4
returns-then-a-lt240 c = simp (le-ltb _ _ c.if-a-lt128.false, le-ltb _ _ c.if-a-lt224.false, lt-ltb _ _ c.if-a-lt240.true)

pub returns : goal.returns
unfolding code_of4
returns c = simp (le-ltb _ _ c.if-a-lt128.false, le-ltb _ _ c.if-a-lt224.false, le-ltb _ _ c.if-a-lt240.false)

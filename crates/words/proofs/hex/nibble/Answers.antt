use native.Mathlib.Omega.{arith}
use Rattle.words.specs.Digit.{nibble_of}
use Rattle.text.proofs.ClassLaws.{inside, below, above}
use Rattle.words.proofs.hex.nibble.Goals as goal

pub returns-then-a-lt48 : goal.returns-then-a-lt48
unfolding nibble_of
returns-then-a-lt48 c = simp (below 48 57 _ c.if-a-lt48.true, below 97 102 c.args.a (omega arith))

pub returns-then-a-le57 : goal.returns-then-a-le57
unfolding nibble_of
returns-then-a-le57 c = simp (inside 48 57 _ c.if-a-lt48.false c.if-a-le57.true)

pub returns-then-a-lt97 : goal.returns-then-a-lt97
unfolding nibble_of
returns-then-a-lt97 c = simp (above 48 57 _ c.if-a-le57.false, below 97 102 _ c.if-a-lt97.true)

pub returns-then-a-le102 : goal.returns-then-a-le102
unfolding nibble_of
returns-then-a-le102 c = simp (above 48 57 _ c.if-a-le57.false, inside 97 102 _ c.if-a-lt97.false c.if-a-le102.true)

pub returns : goal.returns
unfolding nibble_of
returns c = simp (above 48 57 _ c.if-a-le57.false, above 97 102 _ c.if-a-le102.false)

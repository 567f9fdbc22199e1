use borrow.Author.Tests.{ne_eqb}
use Rattle.text.proofs.ClassLaws.{above, below, blank_ascii, inside}
use Rattle.text.specs.Classes.{blank1, within}
use Rattle.text.proofs.classes.blank_width.Goals as goal

pub returns-then-a-eq32 : goal.returns-then-a-eq32
unfolding blank1 within
returns-then-a-eq32 c = rw (blank_ascii c.args.a c.args.b c.args.c c.if-a-lt128.true, c.if-a-eq32.true)

pub returns-then-a-lt9 : goal.returns-then-a-lt9
unfolding blank1
returns-then-a-lt9 c = rw (blank_ascii c.args.a c.args.b c.args.c c.if-a-lt128.true, below 0x09 0x0d _ c.if-a-lt9.true, ne_eqb _ _ c.if-a-eq32.false)

pub returns-then-a-le13 : goal.returns-then-a-le13
unfolding blank1
returns-then-a-le13 c = rw (blank_ascii c.args.a c.args.b c.args.c c.if-a-lt128.true, inside 0x09 0x0d _ c.if-a-lt9.false c.if-a-le13.true)

pub returns-then-a-lt128 : goal.returns-then-a-lt128
unfolding blank1
returns-then-a-lt128 c = rw (blank_ascii c.args.a c.args.b c.args.c c.if-a-lt128.true, above 0x09 0x0d _ c.if-a-le13.false, ne_eqb _ _ c.if-a-eq32.false)

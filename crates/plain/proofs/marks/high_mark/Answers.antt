use native.Mathlib.Omega.{arith}
use Rattle.plain.proofs.PlainLaws.{high_none}
use Rattle.tokens.specs.Shapes.{mark_kind}
use Rattle.plain.proofs.marks.high_mark.Goals as goal

pub returns-then-a-eq91 : goal.returns-then-a-eq91
unfolding mark_kind
returns-then-a-eq91 c = rw c.if-a-eq91.true

pub returns-then-a-eq93 : goal.returns-then-a-eq93
unfolding mark_kind
returns-then-a-eq93 c = rw c.if-a-eq93.true

pub returns-then-a-lt94 : goal.returns-then-a-lt94
returns-then-a-lt94 c = high_none c.args.a c.requires c.if-a-eq91.false c.if-a-eq93.false (λ e. omega (arith, e, c.if-a-lt94.true)) (λ e. omega (arith, e, c.if-a-lt94.true))

pub returns-then-a-eq123 : goal.returns-then-a-eq123
unfolding mark_kind
returns-then-a-eq123 c = rw c.if-a-eq123.true

pub returns-then-a-eq125 : goal.returns-then-a-eq125
unfolding mark_kind
returns-then-a-eq125 c = rw c.if-a-eq125.true

pub returns : goal.returns
returns c = high_none c.args.a c.requires (λ e. omega (arith, e, c.if-a-lt94.false)) (λ e. omega (arith, e, c.if-a-lt94.false)) c.if-a-eq123.false c.if-a-eq125.false

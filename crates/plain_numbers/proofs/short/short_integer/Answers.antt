use native.Mathlib.Omega.{arith}
use mathlib.Core.Path.{◌∙◌, ap, sym}
use Rattle.plain_numbers.specs.inner.Shorts.{ends_short}
use Rattle.plain_numbers.proofs.ShortLaws.{short_loud, short_none, short_over, short_said}
use Rattle.plain_numbers.proofs.short.short_integer.Goals as goal

pub returns-then-len-eq0 : goal.returns-then-len-eq0
returns-then-len-eq0 c = short_none c.args.code c.args.s.now c.digits_of-d.result c.digits_of-d.ensures c.if-len-eq0.true

pub returns-then-not-ends_short : goal.returns-then-not-ends_short
returns-then-not-ends_short c = short_loud c.args.code c.args.s.now c.digits_of-d.result c.digits_of-d.ensures (ap ends_short (sym c.peek.ensures) ∙ sym c.ends_short.ensures ∙ c.if-not-ends_short.true)

pub returns-then-highest-d : goal.returns-then-highest-d
returns-then-highest-d c = short_over c.args.code c.args.s.now c.digits_of-d.result c.digits_of-d.ensures (omega (arith, c.highest.ensures, c.if-highest-d.true))

pub returns : goal.returns
returns c = short_said c.args.code c.args.s.now c.digits_of-d.result c.digits_of-d.ensures c.if-len-eq0.false (ap ends_short (sym c.peek.ensures) ∙ sym c.ends_short.ensures ∙ c.if-not-ends_short.false) (omega (arith, c.highest.ensures, c.if-highest-d.false))

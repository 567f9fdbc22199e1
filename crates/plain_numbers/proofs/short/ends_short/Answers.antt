use borrow.Author.Tests.{eq-eqb, ne_eqb}
use Rattle.plain_numbers.specs.inner.Shorts.{ends_short}
use Rattle.plain_numbers.proofs.short.ends_short.Goals as goal

pub returns-then-byte-eq0 : goal.returns-then-byte-eq0
unfolding ends_short
returns-then-byte-eq0 c = rw (eq-eqb c.args.byte 0 c.if-byte-eq0.true)

pub returns : goal.returns
unfolding ends_short
returns c = rw (ne_eqb c.args.byte 0 c.if-byte-eq0.false) c.is_quiet.ensures

use mathlib.Core.Path.{sym}
use Rattle.integers.proofs.WidthRows.{last_limit}
use Rattle.integers.specs.Width.{limit_at, width_at}
use Rattle.integers.proofs.width.highest.Goals as goal

pub returns-then-code-eq1 : goal.returns-then-code-eq1
unfolding limit_at width_at
returns-then-code-eq1 c = rw c.if-code-eq1.true

pub returns-then-code-eq2 : goal.returns-then-code-eq2
unfolding limit_at width_at
returns-then-code-eq2 c = rw c.if-code-eq2.true

pub returns-then-code-eq3 : goal.returns-then-code-eq3
unfolding limit_at width_at
returns-then-code-eq3 c = rw c.if-code-eq3.true

pub returns-then-code-eq4 : goal.returns-then-code-eq4
unfolding limit_at width_at
returns-then-code-eq4 c = rw c.if-code-eq4.true

pub returns-then-code-eq5 : goal.returns-then-code-eq5
unfolding limit_at width_at
returns-then-code-eq5 c = rw c.if-code-eq5.true

pub returns-then-code-eq6 : goal.returns-then-code-eq6
unfolding limit_at width_at
returns-then-code-eq6 c = rw c.if-code-eq6.true

pub returns-then-code-eq7 : goal.returns-then-code-eq7
unfolding limit_at width_at
returns-then-code-eq7 c = rw c.if-code-eq7.true

pub returns : goal.returns
returns c = sym (last_limit _ c.if-code-eq1.false c.if-code-eq2.false c.if-code-eq3.false c.if-code-eq4.false c.if-code-eq5.false c.if-code-eq6.false c.if-code-eq7.false)

use native.Mathlib.Omega.{arith}
use mathlib.Core.Path.{◌∙◌}
use Rattle.sarridok_c.proofs.ArrivedLaws.{lent_long, lent_short}
use Rattle.sarridok_c.proofs.lent_state.state_in.Goals as goal

pub returns-then-s-lt-NUMBERS : goal.returns-then-s-lt-NUMBERS
returns-then-s-lt-NUMBERS c = lent_short c.args.s.now c.if-s-lt-NUMBERS.true

pub overflow_cast-s : goal.overflow_cast-s
overflow_cast-s c = omega (arith, c.type_inv.s 9)

pub returns : goal.returns
returns c = c.state_of.ensures ∙ lent_long c.args.s.now c.if-s-lt-NUMBERS.false

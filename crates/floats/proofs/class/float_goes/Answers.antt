use borrow.Author.Tests.{eq-eqb, ne_eqb}
use Rattle.floats.specs.Classes.{float_goes}
use Rattle.floats.proofs.class.float_goes.Goals as goal

pub returns-then-a-eq46 : goal.returns-then-a-eq46
unfolding float_goes
returns-then-a-eq46 c = simp (eq-eqb _ _ c.if-a-eq46.true)

pub returns : goal.returns
unfolding float_goes
returns c = simp (ne_eqb _ _ c.if-a-eq46.false) c.is_float_char.ensures

use mathlib.Core.Path.{ap, sym, ◌∙◌}
use native.Mathlib.Omega.{arith}
use Rattle.opened.specs.Former.{field_of, field_before}
use Rattle.opened.proofs.FormerMeans.{former_means}
use Rattle.opened.proofs.former.field_before.Goals as goal

pub field_at-requires : goal.field_at-requires
field_at-requires c = omega (arith, (former_means c.args.text.now c.args.tape.now c.args.n _ (sym c.in-Some.ensures)).before)

pub returns-in-None : goal.returns-in-None
unfolding field_before
returns-in-None c = ap (field_of c.args.tape.now) c.in-None.ensures

pub returns-in-Some : goal.returns-in-Some
unfolding field_before
returns-in-Some c = c.field_at.ensures ∙ ap (field_of c.args.tape.now) c.in-Some.ensures

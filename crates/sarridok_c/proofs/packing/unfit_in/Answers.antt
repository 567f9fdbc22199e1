use mathlib.Core.Path.{◌∙◌, ap, sym}
use Rattle.sarridok_c.specs.Packed.{unfit_in, unless_judged}
use Rattle.sarridok_c.proofs.packing.unfit_in.Goals as goal

pub returns-in-Ok : goal.returns-in-Ok
unfolding unfit_in
returns-in-Ok c = c.unfit.ensures ∙ sym (ap unless_judged (sym c.judge-judged.ensures ∙ c.in-Ok.is))

pub returns-in-Err : goal.returns-in-Err
unfolding unfit_in
returns-in-Err c = sym (ap unless_judged (sym c.judge-judged.ensures ∙ c.in-Err.is))

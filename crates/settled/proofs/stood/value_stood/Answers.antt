use mathlib.Core.Path.{◌∙◌, ap, sym}
use Rattle.settled.specs.Stood.{value_by, value_stood}
use Rattle.settled.proofs.stood.value_stood.Goals as goal

pub returns-in-Ok : goal.returns-in-Ok
unfolding value_stood
returns-in-Ok c = c.string_stood.ensures ∙ ap (value_by c.args.s.now c.args.at) (sym c.in-Ok.is ∙ c.sign-given.ensures)

pub returns-in-Err : goal.returns-in-Err
unfolding value_stood
returns-in-Err c = c.sign_stood.ensures ∙ ap (value_by c.args.s.now c.args.at) (sym c.in-Err.is ∙ c.sign-given.ensures)

use mathlib.Core.Path.{◌∙◌, ap, sym}
use Rattle.settled.specs.Stood.{enable_by, enable_stood}
use Rattle.settled.proofs.stood.enable_stood.Goals as goal

pub returns-in-Ok : goal.returns-in-Ok
unfolding enable_stood
returns-in-Ok c = c.listed_stood.ensures ∙ ap (enable_by c.args.s.now c.args.at) (sym c.in-Ok.is ∙ c.sign-opened.ensures)

pub returns-in-Err : goal.returns-in-Err
unfolding enable_stood
returns-in-Err c = c.sign_stood.ensures ∙ ap (enable_by c.args.s.now c.args.at) (sym c.in-Err.is ∙ c.sign-opened.ensures)

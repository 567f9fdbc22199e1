use Rattle.std.proofs.Common.{Ok, Err}
use mathlib.Core.Path.{◌∙◌, sym}
use Rattle.settled.proofs.StoodLaws.{sign-by}
use Rattle.settled.proofs.stood_steps.sign_stood.Goals as goal

pub returns-in-Ok : goal.returns-in-Ok
returns-in-Ok c = c.sign_here.ensures ∙ sign-by c.args.b c.args.s.now c.args.at (Ok _) (sym c.in-Ok.is ∙ c.skip_ws-gap.ensures)

pub returns-in-Err : goal.returns-in-Err
returns-in-Err c = sign-by c.args.b c.args.s.now c.args.at (Err _) (sym c.in-Err.is ∙ c.skip_ws-gap.ensures)

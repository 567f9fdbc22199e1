use Rattle.std.proofs.Common.{Ok, Err}
use mathlib.Core.Path.{◌∙◌}
use borrow.Author.Rules.{rules}
use Rattle.attributes.proofs.StepLaws.{sign-by}
use Rattle.attributes.proofs.steps.sign.Goals as goal

pub returns-in_err-place : goal.returns-in_err-place
returns-in_err-place c = rw (← sign-by c.args.b c.args.s.now c.args.at (Err _) c.in_err-place.ensures) (search rules)

pub returns : goal.returns
returns c = c.sign_at.ensures ∙ sign-by c.args.b c.args.s.now c.args.at (Ok _) c.in_ok-place.ensures

use Rattle.std.proofs.Common.{Ok, Err}
use mathlib.Core.Path.{◌∙◌, ap}
use borrow.Author.Rules.{rules}
use Rattle.attributes.proofs.StepLaws.{no_end_by}
use Rattle.attributes.proofs.close.no_end.Goals as goal

pub returns-in_err-skip_ws : goal.returns-in_err-skip_ws
returns-in_err-skip_ws c = rw (← no_end_by c.args.s.now c.args.at (Err _) c.in_err-skip_ws.ensures) (search rules)

pub returns : goal.returns
returns c = ap Err c.expected_attribute_end.ensures ∙ no_end_by c.args.s.now c.args.at (Ok _) c.in_ok-skip_ws.ensures

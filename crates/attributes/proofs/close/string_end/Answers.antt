use Rattle.std.proofs.Common.{Ok, Err}
use mathlib.Core.Path.{◌∙◌}
use borrow.Author.Rules.{rules}
use Rattle.attributes.proofs.StepLaws.{string_end_by}
use Rattle.attributes.proofs.close.string_end.Goals as goal

pub returns-in_err-place : goal.returns-in_err-place
returns-in_err-place c = rw (← string_end_by c.args.s.now c.args.at (Err _) c.in_err-place.ensures) (search rules)

pub returns : goal.returns
returns c = c.list_end.ensures ∙ string_end_by c.args.s.now c.args.at (Ok _) c.in_ok-place.ensures

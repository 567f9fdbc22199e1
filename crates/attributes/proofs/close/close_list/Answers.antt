use Rattle.std.proofs.Common.{Ok, Err}
use mathlib.Core.Path.{◌∙◌}
use borrow.Author.Rules.{rules}
use Rattle.attributes.proofs.StepLaws.{close_by}
use Rattle.attributes.proofs.close.close_list.Goals as goal

pub returns-in_err-all : goal.returns-in_err-all
returns-in_err-all c = rw (← close_by c.args.s.now c.args.at c.args.extensions (Err _) c.in_err-all.ensures) (search rules)

pub returns : goal.returns
returns c = c.list_end.ensures ∙ close_by c.args.s.now c.args.at c.args.extensions (Ok (_, _)) c.in_ok-all.ensures

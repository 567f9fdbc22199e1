use mathlib.Core.Bool.{true, false}
use mathlib.Core.Path.{sym, ◌∙◌}
use Rattle.opened.proofs.FormerLaws.{former_deeper, former_by}
use Rattle.opened.proofs.former.is_former.Goals as goal

pub returns-then-closed-ne0 : goal.returns-then-closed-ne0
returns-then-closed-ne0 c = former_deeper c.args.text.now c.args.tape.now c.args.n c.args.i c.args.closed c.if-closed-ne0.true

pub returns-then-is_field : goal.returns-then-is_field
returns-then-is_field c = c.are_alike.ensures ∙ former_by c.args.text.now c.args.tape.now c.args.n c.args.i c.args.closed c.if-closed-ne0.false true (sym c.is_field.ensures ∙ c.if-is_field.true)

pub returns : goal.returns
returns c = former_by c.args.text.now c.args.tape.now c.args.n c.args.i c.args.closed c.if-closed-ne0.false false (sym c.is_field.ensures ∙ c.if-is_field.false)

use mathlib.Core.Bool.{Bool, cond}
use mathlib.Core.Path.{◌∙◌, ap, sym}
use Rattle.attributes.proofs.ListLaws.{other_by}
use Rattle.attributes.specs.declared.list.Item.TheVariants.{More, NoComma}
use Rattle.attributes.specs.declared.list.OtherChar.TheVariants.{Ends, Goes}
use Rattle.attributes.proofs.list.item_end.Goals as goal

pub returns-then-comma : goal.returns-then-comma
returns-then-comma c = ap (λ (b : Bool). cond b (More c.args.at c.args.e) NoComma) (sym c.if-comma.true) ∙ other_by c.args.t.now c.args.e c.args.comma c.args.at Goes (sym c.in-Goes.is ∙ c.check_other_char-other.ensures)

pub returns-else-comma : goal.returns-else-comma
returns-else-comma c = ap (λ (b : Bool). cond b (More c.args.at c.args.e) NoComma) (sym c.if-comma.false) ∙ other_by c.args.t.now c.args.e c.args.comma c.args.at Goes (sym c.in-Goes.is ∙ c.check_other_char-other.ensures)

pub returns-in-Ends : goal.returns-in-Ends
returns-in-Ends c = other_by c.args.t.now c.args.e c.args.comma c.args.at Ends (sym c.in-Ends.is ∙ c.check_other_char-other.ensures)

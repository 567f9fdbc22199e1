use Rattle.std.proofs.Common.{Err}
use mathlib.Core.Path.{◌∙◌, ap}
use Rattle.text.specs.Refusals.{at_place}
use Rattle.text.specs.declared.refusal.Refusal.{Refusal}
use Rattle.rows.specs.declared.Entry.{Entry}
use Rattle.sarridok.specs.Integers.{entry_integer}
use Rattle.sarridok.specs.inner.Items.{at_item}
use Rattle.sarridok.proofs.ItemLaws.{item_inside, item_unfit}
use Rattle.sarridok.proofs.items.item_at.Goals as goal

pub returns-then-count-i : goal.returns-then-count-i
returns-then-count-i c = ap Err (c.at_item.ensures ∙ ap (λ (r : Refusal). at_place r c.args.k) c.unfit.ensures) ∙ item_unfit c.args.text.now c.args.tape.now c.args.count c.args.number c.args.k c.if-count-i.true

pub returns : goal.returns
returns c = c.entry_integer.ensures ∙ ap (λ (e : Entry). at_item c.args.k (entry_integer c.args.text.now e)) c.entry.ensures ∙ item_inside c.args.text.now c.args.tape.now c.args.count c.args.number c.args.k c.if-count-i.false

use mathlib.Core.Path.{◌∙◌, ap, sym}
use Rattle.integers.specs.declared.integer.Integer.{Integer}
use Rattle.integers.specs.declared.width.Width.{Width}
use Rattle.sarridok.specs.Typed.{integer_at}
use Rattle.sarridok.specs.inner.Items.{at_item, coded_in}
use Rattle.sarridok.proofs.ItemLaws.{short_item}
use Rattle.sarridok.proofs.items.integer_in.Goals as goal

pub returns-in-Value : goal.returns-in-Value
returns-in-Value c = short_item _ _ _ _ c.args.s.now (sym c.short_integer-short.ensures ∙ c.in-Value.is)

pub returns-in-Other : goal.returns-in-Other
returns-in-Other c = c.coded_item.ensures ∙ ap (λ (r : Integer). at_item c.args.k (coded_in c.args.width r)) (c.integer_at.ensures ∙ ap (λ (w : Width). integer_at w c.args.s.now) c.width_at.ensures)

use mathlib.Core.Path.{◌∙◌, ap₂}
use Rattle.fields.specs.inner.Order.{order_of}
use Rattle.fields.proofs.comparing.compare.Goals as goal

pub returns : goal.returns
returns c = c.ordered.ensures ∙ ap₂ order_of c.name_of.ensures c.name_of-2.ensures

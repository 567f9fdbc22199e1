use mathlib.Core.Path.{◌∙◌}
use Rattle.pieces.proofs.PlaceLaws.{later_max}
use Rattle.pieces.proofs.places.later.Goals as goal

pub returns : goal.returns
returns c = c.max.ensures ∙ later_max c.args.a c.args.b

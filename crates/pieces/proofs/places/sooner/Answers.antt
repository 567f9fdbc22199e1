use mathlib.Core.Path.{◌∙◌}
use Rattle.pieces.proofs.PlaceLaws.{sooner_min}
use Rattle.pieces.proofs.places.sooner.Goals as goal

pub returns : goal.returns
returns c = c.min.ensures ∙ sooner_min c.args.a c.args.b

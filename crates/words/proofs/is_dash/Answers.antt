use mathlib.Core.Path.{ap, ◌∙◌}
use lib.Dec.{eqb}
use lib.Pointwise.{pointwise}
use Rattle.words.proofs.Dashes.{dash_same}
use Rattle.words.proofs.is_dash.Goals as goal

pub returns : goal.returns
returns c = c.eq.ensures ∙ ap (pointwise eqb c.args.s.now) c.as_slice.ensures ∙ dash_same c.args.s.now

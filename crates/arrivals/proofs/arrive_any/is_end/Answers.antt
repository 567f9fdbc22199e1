use mathlib.Core.Path.{ap, ◌∙◌}
use lib.Dec.{eqb}
use lib.Pointwise.{pointwise}
use Rattle.arrivals.proofs.WordLaws.{end_same}
use Rattle.arrivals.proofs.arrive_any.is_end.Goals as goal

pub returns : goal.returns
returns c = c.eq.ensures ∙ ap (pointwise eqb c.args.s.now) c.as_slice.ensures ∙ end_same c.args.s.now

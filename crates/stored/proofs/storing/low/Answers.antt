use mathlib.Core.Path.{◌∙◌}
use Rattle.stored.proofs.StoreLaws.{low_by}
use Rattle.stored.proofs.storing.low.Goals as goal

pub returns : goal.returns
returns c = c.unwrap_or.ensures ∙ low_by c.try_from.result c.args.n c.try_from.ensures

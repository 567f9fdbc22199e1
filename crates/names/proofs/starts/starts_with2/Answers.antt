use mathlib.Core.List.{[], ◌∷◌}
use mathlib.Core.Path.{◌∙◌}
use Rattle.names.proofs.StartLaws.{starts_as}
use Rattle.names.proofs.starts.starts_with2.Goals as goal

pub returns : goal.returns
returns c = c.starts_with.ensures.value ∙ starts_as (c.args.a ∷ c.args.b ∷ []) c.args.s.now

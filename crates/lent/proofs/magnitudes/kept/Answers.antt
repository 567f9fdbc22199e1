use mathlib.Core.Path.{◌∙◌}
use Rattle.lent.specs.Marks.{mark_at}
use Rattle.lent.proofs.MarkLaws.{kept_numbers}
use Rattle.lent.proofs.magnitudes.kept.Goals as goal

pub returns : goal.returns
returns c = c.kept.ensures ∙ kept_numbers mark_at _ _

use mathlib.Core.Path.{◌∙◌}
use Rattle.lent.specs.Marks.{byte_mark_at}
use Rattle.lent.proofs.MarkLaws.{kept_numbers}
use Rattle.lent.proofs.bytes.kept.Goals as goal

pub returns : goal.returns
returns c = c.kept.ensures ∙ kept_numbers byte_mark_at _ _

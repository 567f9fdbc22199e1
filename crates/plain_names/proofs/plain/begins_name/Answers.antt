use mathlib.Core.Path.{sym}
use Rattle.plain_names.proofs.PartLaws.{below_letters}
use Rattle.plain_names.proofs.plain.begins_name.Goals as goal

pub returns-then-a-lt65 : goal.returns-then-a-lt65
returns-then-a-lt65 c = sym (below_letters _ c.if-a-lt65.true)

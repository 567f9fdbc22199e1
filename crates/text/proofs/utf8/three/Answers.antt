use mathlib.Core.Path.{sym, ◌∙◌}
use Rattle.text.specs.Utf8.{behind_three}
use Rattle.text.proofs.utf8.three.Goals as goal

pub returns-then-is_second : goal.returns-then-is_second
unfolding behind_three
returns-then-is_second c = simp (sym c.is_second.ensures ∙ c.if-is_second.true, c.is_within.ensures)

pub returns : goal.returns
unfolding behind_three
returns c = simp (sym c.is_second.ensures ∙ c.if-is_second.false)

use mathlib.Core.Path.{sym, ◌∙◌}
use Rattle.text.specs.Utf8.{behind_four}
use Rattle.text.proofs.utf8.four.Goals as goal

pub returns-then-three : goal.returns-then-three
unfolding behind_four
returns-then-three c = simp (sym c.three.ensures ∙ c.if-three.true, c.is_within.ensures)

pub returns : goal.returns
unfolding behind_four
returns c = simp (sym c.three.ensures ∙ c.if-three.false)

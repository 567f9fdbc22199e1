use mathlib.Core.Path.{sym, ◌∙◌}
use Rattle.text.specs.Classes.{ascii_first}
use Rattle.text.proofs.classes.is_ascii_first.Goals as goal

pub returns-then-is_letter : goal.returns-then-is_letter
unfolding ascii_first
returns-then-is_letter c = simp (sym c.is_letter.ensures ∙ c.if-is_letter.true)

pub returns : goal.returns
unfolding ascii_first
returns c = simp (sym c.is_letter.ensures ∙ c.if-is_letter.false)

use borrow.Author.Rules.{rules}
use mathlib.Core.Path.{sym, ◌∙◌}
use Rattle.text.specs.Classes.{ascii_next, digit, within}
use Rattle.text.proofs.classes.is_ascii_next.Goals as goal

pub returns-then-is_letter : goal.returns-then-is_letter
unfolding ascii_next
returns-then-is_letter c = simp (sym c.is_letter.ensures ∙ c.if-is_letter.true)

pub returns-then-contains : goal.returns-then-contains
unfolding ascii_next digit within
returns-then-contains c = simp (sym c.is_letter.ensures ∙ c.if-is_letter.false) (search rules)

pub returns : goal.returns
unfolding ascii_next digit within
returns c = simp (sym c.is_letter.ensures ∙ c.if-is_letter.false) (search rules)

use borrow.Author.Rules.{rules}
use Rattle.text.specs.Classes.{letter, within}
use Rattle.text.proofs.classes.is_letter.Goals as goal

pub returns-then-contains : goal.returns-then-contains
unfolding letter within
returns-then-contains c = search rules

pub returns-else-contains : goal.returns-else-contains
unfolding letter within
returns-else-contains c = search rules

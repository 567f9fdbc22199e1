use borrow.Author.Rules.{rules}
use Rattle.text.specs.Classes.{within}
use Rattle.text.proofs.classes.is_within.Goals as goal

pub returns : goal.returns
unfolding within
returns c = search rules

use borrow.Author.Rules.{rules}
use borrow.Author.Tests.{tests}
use Rattle.text.specs.Classes.{within}
use Rattle.places.proofs.shown.is_between.Goals as goal

pub returns : goal.returns
unfolding within
returns c = search (rules, tests)

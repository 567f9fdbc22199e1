use borrow.Author.Rules.{rules}
use Rattle.text.specs.Classes.{within}
use Rattle.hexes.specs.inner.Bits.{among}
use Rattle.hexes.proofs.is_among.Goals as goal

pub returns-then-contains : goal.returns-then-contains
unfolding among within
returns-then-contains c = search rules

pub returns-else-contains : goal.returns-else-contains
unfolding among within
returns-else-contains c = search rules

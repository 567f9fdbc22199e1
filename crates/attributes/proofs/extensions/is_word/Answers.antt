use borrow.Author.Tests.{eq-eqb, ne_eqb}
use Rattle.attributes.specs.Extensions.{is_word}
use Rattle.attributes.proofs.extensions.is_word.Goals as goal

pub returns-then-n-word : goal.returns-then-n-word
unfolding is_word
returns-then-n-word c = simp (ne_eqb _ _ c.if-n-word.true)

pub returns : goal.returns
unfolding is_word
returns c = simp (eq-eqb _ _ c.if-n-word.false) c.check_str.ensures

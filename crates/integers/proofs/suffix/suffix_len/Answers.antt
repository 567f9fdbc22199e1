use mathlib.Core.Path.{sym}
use Rattle.integers.proofs.WidthRows.{three_letters}
use Rattle.integers.specs.Width.{suffix_word, width_at}
use Rattle.integers.proofs.suffix.suffix_len.Goals as goal

pub returns-then-code-eq1 : goal.returns-then-code-eq1
unfolding suffix_word width_at
returns-then-code-eq1 c = rw c.if-code-eq1.true

pub returns-then-code-eq5 : goal.returns-then-code-eq5
unfolding suffix_word width_at
returns-then-code-eq5 c = rw c.if-code-eq5.true

pub returns : goal.returns
returns c = sym (three_letters _ c.if-code-eq1.false c.if-code-eq5.false)

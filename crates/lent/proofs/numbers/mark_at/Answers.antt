use mathlib.Core.Path.{refl}
use Rattle.lent.specs.Marks.{mark_at}
use Rattle.lent.proofs.numbers.mark_at.Goals as goal

pub returns : goal.returns
unfolding mark_at
returns c = refl

use Rattle.text.specs.Classes.{digit}
use Rattle.text.proofs.classes.is_digit.Goals as goal

pub returns : goal.returns
unfolding digit
returns c = simp c.is_within.ensures

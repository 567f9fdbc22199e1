use Rattle.text.specs.Utf8.{code_of}
use Rattle.text.proofs.utf8.code_point.Goals as goal

pub returns : goal.returns
unfolding code_of
returns c = cc

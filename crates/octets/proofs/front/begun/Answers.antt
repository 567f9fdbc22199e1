use Rattle.octets.specs.Octets.{begun_of}
use Rattle.octets.proofs.front.begun.Goals as goal

pub returns : goal.returns
unfolding begun_of
returns c = cc

use Rattle.pieces.proofs.state.begin.Goals as goal

pub returns : goal.returns
returns c = cc

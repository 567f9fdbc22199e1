use Rattle.pieces.proofs.StrideLaws.{wait_none}
use Rattle.pieces.proofs.stride.wait_from.Goals as goal

pub returns-then-part-from : goal.returns-then-part-from
returns-then-part-from c = wait_none c.args.part.now c.args.from c.nothing.result c.nothing.ensures c.requires.0 c.if-part-from.true

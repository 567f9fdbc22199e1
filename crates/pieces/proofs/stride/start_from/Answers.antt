use Rattle.pieces.proofs.StrideLaws.{start_long, start_short}
use Rattle.pieces.proofs.stride.start_from.Goals as goal

pub returns-then-part-le-SHORT : goal.returns-then-part-le-SHORT
returns-then-part-le-SHORT c = start_short c.args.part.now c.args.seen c.if-part-le-SHORT.true

pub returns : goal.returns
returns c = start_long c.args.part.now c.args.seen c.beyond.result c.beyond.ensures c.if-part-le-SHORT.false

use Rattle.arrivals.proofs.StateLaws.{bytes_none, bytes_some}
use Rattle.arrivals.proofs.states.bytes.Goals as goal

pub returns-then-s-eq0 : goal.returns-then-s-eq0
returns-then-s-eq0 c = bytes_none c.args.s.now (c.args.o.now, c.args.at) _ c.if-s-eq0.true c.byte.ensures

pub returns : goal.returns
returns c = bytes_some c.args.s.now (c.args.o.now, c.args.at) _ c.if-s-eq0.false c.bytes.ensures

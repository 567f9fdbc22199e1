use Rattle.arrivals.proofs.StateLaws.{stands_said}
use Rattle.arrivals.proofs.states.stands.Goals as goal

pub returns : goal.returns
returns c = stands_said c.args.s c.args.buffer.now (c.args.o.now, c.args.at) _ _ _ _ c.bytes-a.ensures c.state-b.ensures c.byte-c.ensures _ c.part.ensures c.bytes.ensures

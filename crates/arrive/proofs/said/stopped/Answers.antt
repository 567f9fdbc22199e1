use Rattle.lines.proofs.OutLaws.{then}
use Rattle.arrive.specs.Printed.{refusal_text}
use Rattle.arrive.specs.inner.Said.{stopped_text, tape_lines}
use Rattle.arrive.proofs.said.stopped.Goals as goal

pub returns : goal.returns
unfolding stopped_text
returns c = then (c.args.o.now, c.args.at) _ _ (tape_lines c.args.tape.now c.args.n) (refusal_text c.args.r) c.entries-a.ensures c.refused.ensures

use Rattle.lines.proofs.OutLaws.{then}
use Rattle.lines.specs.Decimal.{decimal}
use Rattle.show.specs.Readings.{tape_text}
use Rattle.arrivals.specs.inner.Says.{counted_text}
use Rattle.arrivals.proofs.said.counted.Goals as goal

pub returns : goal.returns
unfolding counted_text
returns c = then (c.args.o.now, c.args.at) _ _ (decimal c.args.n) (tape_text 59 c.args.tape.now c.args.n) c.number-a.ensures c.entries.ensures

use Rattle.lines.proofs.OutLaws.{then_byte}
use Rattle.show.specs.Answers.{placed_text}
use Rattle.arrive.specs.Printed.{refusal_text}
use Rattle.arrive.proofs.said.refused.Goals as goal

pub returns : goal.returns
unfolding refusal_text
returns c = then_byte (c.args.o.now, c.args.at) _ _ (placed_text c.args.r) 10 c.placed-a.ensures c.byte.ensures

use Rattle.tape.proofs.PrintedLaws.{printed}
use Rattle.tape.proofs.answer.Goals as goal

pub returns : goal.returns
returns c = (printed c.args.text.now c.args.tape.now _ _ (c.args.o.now, 0) _ _ c.read-r.ensures.0 c.read-r.ensures.1 c.said-a.ensures c.byte.ensures, c.read-r.ensures.1)

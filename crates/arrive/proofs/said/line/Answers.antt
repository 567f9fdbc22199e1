use Rattle.arrive.proofs.LineLaws.{line_put}
use Rattle.arrive.proofs.said.line.Goals as goal

pub returns : goal.returns
returns c = line_put c.args.e (c.args.o.now, c.args.at) _ _ _ _ _ _ c.number-a.ensures c.word-b.ensures c.word-c.ensures c.word-d.ensures c.word-f.ensures c.byte.ensures

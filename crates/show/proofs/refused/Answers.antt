use Rattle.lines.proofs.OutLaws.{then}
use Rattle.lines.specs.Decimal.{word_of}
use Rattle.show.specs.Answers.{placed_text, refused_text}
use Rattle.show.proofs.refused.Goals as goal

pub returns : goal.returns
unfolding refused_text
returns c = then (c.args.o.now, c.args.at) _ _ (placed_text c.args.r) (word_of c.args.r.reason) c.placed-a.ensures c.word.ensures

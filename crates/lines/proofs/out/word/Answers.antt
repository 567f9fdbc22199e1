use Rattle.lines.specs.Decimal.{decimal, word_of}
use Rattle.lines.proofs.OutLaws.{put_behind}
use Rattle.lines.proofs.out.word.Goals as goal

pub returns : goal.returns
unfolding word_of
returns c = put_behind (c.args.out.now, c.args.at) _ _ 32 (decimal c.args.n) c.byte-to.ensures c.number.ensures

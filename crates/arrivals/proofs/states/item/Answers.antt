use Rattle.lines.proofs.OutLaws.{put_behind}
use Rattle.lines.specs.Decimal.{decimal}
use Rattle.arrivals.specs.States.{item_text}
use Rattle.arrivals.proofs.states.item.Goals as goal

pub returns : goal.returns
unfolding item_text
returns c = put_behind (c.args.o.now, c.args.at) _ _ 44 (decimal c.args.n) c.byte-a.ensures c.number.ensures

use mathlib.Core.List.{◌++◌}
use Rattle.lines.proofs.OutLaws.{then}
use Rattle.arrivals.specs.States.{item_text, three_text}
use Rattle.arrivals.proofs.states.three.Goals as goal

pub returns : goal.returns
unfolding three_text
returns c =
    then (c.args.o.now, c.args.at) _ _ (item_text c.args.a ++ item_text c.args.b) (item_text c.args.c)
    (then (c.args.o.now, c.args.at) _ _ (item_text c.args.a) (item_text c.args.b) c.item-d.ensures c.item-e.ensures) c.item.ensures

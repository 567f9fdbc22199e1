use native.Mathlib.Omega.{arith}
use mathlib.Core.List.{◌∷◌}
use mathlib.Core.Path.{refl, ap}
use lib.ListN.{get_or, drop}
use Rattle.lines.specs.Decimal.{decimal}
use Rattle.lines.specs.Out.{put}
use Rattle.lines.proofs.OutLaws.{put_behind}
use Rattle.show.proofs.ShownLaws.{put_turn, put_done, numbers_behind, numbers-behind, numbers_front, numbers_end}
use borrow.Author.Rules.{rules}
use Rattle.show.proofs.of_repair.numbers.Goals as goal

pub loop-n-init : goal.loop-n-init
loop-n-init c = (refl, ap (put (c.args.o.now, c.args.at)) (numbers-behind c.args.s.now))

pub loop-n-preserved : goal.loop-n-preserved
loop-n-preserved c = (
  search rules,
  put_turn (c.loop-n.o, c.loop-n.to) _ (numbers_behind c.loop-n.between (drop c.loop-n.n-index c.args.s.now)) _ (c.loop-n.between ∷ decimal (get_or c.args.s.now c.loop-n.n-index 0)) _
      (numbers_front c.loop-n.between c.args.s.now c.loop-n.n-index (omega arith))
      (put_behind (c.loop-n.o, c.loop-n.to) _ _ c.loop-n.between (decimal (get_or c.args.s.now c.loop-n.n-index 0)) c.byte-a.ensures c.number-to.ensures) c.loop-n.invariant.1,
)

pub returns : goal.returns
returns c = put_done (c.loop-n.o, c.loop-n.to) _ (numbers_behind c.loop-n.between (drop c.loop-n.n-index c.args.s.now)) (numbers_end c.loop-n.between c.args.s.now c.loop-n.n-index (omega arith)) c.loop-n.invariant.1

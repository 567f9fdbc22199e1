use native.Mathlib.Omega.{arith}
use mathlib.Core.Bool.{cond}
use mathlib.Core.List.{[]}
use mathlib.Core.Path.{refl, ap}
use lib.Dec.{ltb}
use lib.ListN.{length}
use Rattle.lines.specs.Out.{put}
use Rattle.rows.specs.Rows.{room_of, entry_at}
use Rattle.show.proofs.ShownLaws.{put_turn, put_done}
use Rattle.arrive.specs.Printed.{line_text}
use Rattle.arrive.proofs.LineLaws.{lines_left, lines_start, lines_front, lines_end}
use borrow.Author.Rules.{rules}
use Rattle.arrive.proofs.said.entries.Goals as goal

pub loop-i-init : goal.loop-i-init
loop-i-init c = (refl, ap (put (c.args.o.now, c.args.at)) (lines_start c.args.tape.now c.args.n))

pub loop-i-preserved : goal.loop-i-preserved
loop-i-preserved c = (
  search rules,
  put_turn (c.loop-i.o, c.loop-i.to) _ (lines_left c.args.tape.now c.args.n c.loop-i.i) _
      (cond (ltb c.loop-i.i (room_of (length c.args.tape.now))) (line_text (entry_at c.args.tape.now c.loop-i.i)) []) _
      (lines_front c.args.tape.now c.args.n c.loop-i.i (omega arith)) c.row_line-to.ensures c.loop-i.invariant.1,
)

pub returns : goal.returns
returns c = put_done (c.loop-i.o, c.loop-i.to) _ (lines_left c.args.tape.now c.args.n c.loop-i.i) (lines_end c.args.tape.now c.args.n c.loop-i.i (omega arith)) c.loop-i.invariant.1

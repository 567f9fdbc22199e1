use native.Mathlib.Omega.{arith}
use mathlib.Core.Bool.{cond}
use mathlib.Core.List.{[]}
use mathlib.Core.Path.{refl, ap}
use lib.Dec.{ltb}
use lib.ListN.{length}
use Rattle.lines.specs.Out.{put}
use Rattle.rows.specs.Rows.{room_of, entry_at}
use Rattle.show.specs.Readings.{entry_text}
use Rattle.show.proofs.ShownLaws.{put_turn, put_done, tape_left, tape_start, tape_front, tape_end}
use borrow.Author.Rules.{rules}
use Rattle.show.proofs.of_read.entries.Goals as goal

pub loop-i-init : goal.loop-i-init
loop-i-init c = (refl, ap (put (c.args.o.now, c.args.at)) (tape_start c.args.between c.args.tape.now c.args.n))

pub loop-i-preserved : goal.loop-i-preserved
loop-i-preserved c = (
  search rules,
  put_turn (c.loop-i.o, c.loop-i.to) _ (tape_left c.args.between c.args.tape.now c.args.n c.loop-i.i) _
      (cond (ltb c.loop-i.i (room_of (length c.args.tape.now))) (entry_text c.args.between (entry_at c.args.tape.now c.loop-i.i)) []) _
      (tape_front c.args.between c.args.tape.now c.args.n c.loop-i.i (omega arith)) c.entry-to.ensures c.loop-i.invariant.1,
)

pub returns : goal.returns
returns c = put_done (c.loop-i.o, c.loop-i.to) _ (tape_left c.args.between c.args.tape.now c.args.n c.loop-i.i) (tape_end c.args.between c.args.tape.now c.args.n c.loop-i.i (omega arith)) c.loop-i.invariant.1

use mathlib.Core.Path.{ap}
use lib.ListN.{length}
use Rattle.rows.specs.Rows.{room_of}
use Rattle.arrive.specs.declared.Standing.{Standing}
use Rattle.arrive.proofs.TurnLaws.{came_behind, turned, turned_last}
use Rattle.arrive.proofs.turn.Goals as goal

pub returns-then-i : goal.returns-then-i
returns-then-i c = turned_last c.args.was.state c.args.buf.now _ (room_of (length c.args.tape.now)) _ (ap (λ (x : Standing). x.on) c.last.ensures.0)

pub overflow_sub-i : goal.overflow_sub-i
overflow_sub-i c = came_behind c.args.was.state c.args.buf.now _ c.more-i.result c.more-i.ensures.0 c.more-i.ensures.1 c.if-i.false

pub returns : goal.returns
returns c = turned c.args.was.state c.args.buf.now _ c.more-i.result c.more-i.ensures.0 c.more-i.ensures.1 c.if-i.false _ (room_of (length c.args.tape.now)) _ c.more.ensures.0 c.more.ensures.2

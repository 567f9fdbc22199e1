use lib.ListN.{length}
use Rattle.rows.specs.Rows.{room_of}
use Rattle.arrivals.specs.declared.arrive_text.Stand.{Stand}
use Rattle.arrivals.proofs.TurnLaws.{turned_said, turned}
use Rattle.arrivals.proofs.arrive_text.turn.Goals as goal

pub returns : goal.returns
returns c =
    let s : Stand = c.args.s in
    record {
      at_after = turned_said s c.args.n c.args.text.now (room_of (length c.args.tape.now)) c.requires.0 c.requires.1 _ c.shift.ensures (c.args.o.now, s.at) _ c.piece-r.ensures.at_after;
      turned = turned s c.args.n c.args.text.now (room_of (length c.args.tape.now)) c.requires.0 c.requires.1 _ c.shift.ensures _ c.piece-r.ensures.buffer_after c.piece-r.auto.buffer _ c.piece-r.ensures.state_value _ c.least.ensures c.piece-r.result.at;
    }

use Rattle.sarridok_c.proofs.ArrivedLaws.{piece_done, piece_none}
use Rattle.sarridok_c.proofs.piece_c.sarridok_piece.Goals as goal

pub returns-in-Some : goal.returns-in-Some
returns-in-Some c =
    let z = piece_done c.args.state.now c.args.buffer.now c.args.n c.args.tape.now c.args.count.now _ c.state_in-lent.ensures _ c.in-Some.is _ _ _ c.piece.ensures.0
    c.piece.ensures.1 c.piece.ensures.2 _ _ _ c.word.ensures.0 c.word.ensures.1 c.word.ensures.2 in
    record {
      answer = z.0;
      state = z.1.0;
      kept = z.1.1.0;
      entries = z.1.1.1.0;
      count = z.1.1.1.1;
    }

pub returns-in-None : goal.returns-in-None
returns-in-None c =
    let z = piece_none c.args.state.now c.args.buffer.now c.args.n c.args.tape.now c.args.count.now _ c.state_in-lent.ensures c.in-None.is _ c.not_in_order.ensures _
    c.refused.ensures in
    record {
      answer = z.0;
      state = z.1.0;
      kept = z.1.1.0;
      entries = z.1.1.1.0;
      count = z.1.1.1.1;
    }

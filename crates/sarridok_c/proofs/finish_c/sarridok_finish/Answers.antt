use Rattle.sarridok_c.proofs.ArrivedLaws.{end_done, end_none}
use Rattle.sarridok_c.proofs.finish_c.sarridok_finish.Goals as goal

pub returns-in-Some : goal.returns-in-Some
returns-in-Some c =
    let z = end_done c.args.state.now c.args.buffer.now c.args.tape.now c.args.count.now _ c.state_in-lent.ensures _ c.in-Some.is _ _ c.finish.ensures.0 c.finish.ensures.1 _ _
    c.word.ensures.0 c.word.ensures.1 in
    record {
      answer = z.0;
      entries = z.1.0;
      count = z.1.1;
    }

pub returns-in-None : goal.returns-in-None
returns-in-None c =
    let z = end_none c.args.state.now c.args.buffer.now c.args.tape.now c.args.count.now _ c.state_in-lent.ensures c.in-None.is _ c.not_in_order.ensures _ c.refused.ensures in
    record {
      answer = z.0;
      entries = z.1.0;
      count = z.1.1;
    }

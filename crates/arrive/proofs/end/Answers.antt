use lib.ListN.{length}
use Rattle.pieces.specs.Ends.{finish_of}
use Rattle.rows.specs.Rows.{room_of}
use Rattle.arrive.proofs.PrintedLaws.{end_said}
use Rattle.arrive.proofs.end.Goals as goal

pub returns : goal.returns
returns c = (
  end_said (finish_of c.args.s c.args.buf.now (room_of (length c.args.tape.now))) c.args.tape.now _ _ c.finish-r.ensures.0 c.finish-r.ensures.1 c.finish-r.auto.tape (c.args.o.now, 0) _ c.ended.ensures,
  c.finish-r.ensures.1,
)

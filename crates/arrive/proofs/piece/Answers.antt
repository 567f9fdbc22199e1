use lib.ListN.{length}
use Rattle.pieces.specs.Pieces.{Outcome, piece_of}
use Rattle.rows.specs.Rows.{room_of}
use Rattle.text.specs.Refusals.{Told}
use Rattle.arrive.proofs.PrintedLaws.{piece_said, next_said, on_said}
use Rattle.arrive.proofs.piece.Goals as goal

pub returns : goal.returns
returns c =
    let told : Told Outcome = piece_of c.args.s c.args.buf.now c.args.n (room_of (length c.args.tape.now)) in (
      piece_said told _ c.piece-r.ensures.0 c.args.tape.now _ c.piece-r.ensures.2 c.piece-r.auto.tape (c.args.o.now, 0) _ c.arrived-at.ensures,
      next_said told _ c.piece-r.ensures.0 c.args.s _ c.behind.ensures,
      on_said told _ c.piece-r.ensures.0 _ c.goes_on.ensures,
      c.piece-r.ensures.1,
      c.piece-r.ensures.2,
    )

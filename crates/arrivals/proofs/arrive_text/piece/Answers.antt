use Prim.Native.Nat.{ℕ}
use mathlib.Core.List.{List}
use mathlib.Core.Path.{ap, ◌∙◌}
use lib.ListN.{length}
use Rattle.lines.specs.Ascii.{ascii}
use Rattle.lines.proofs.OutLaws.{then}
use Rattle.pieces.specs.Pieces.{Outcome, piece_of}
use Rattle.pieces.specs.declared.state.Arrival.{Arrival}
use Rattle.rows.specs.Rows.{room_of}
use Rattle.text.specs.Refusals.{Told}
use Rattle.arrivals.specs.Arrives.{piece_text}
use Rattle.arrivals.specs.inner.Stands.{next_by}
use Rattle.arrivals.proofs.CallLaws.{piece_said}
use Rattle.arrivals.proofs.TurnLaws.{next_says}
use Rattle.arrivals.proofs.arrive_text.piece.Goals as goal

pub returns : goal.returns
returns c =
    let s : Arrival = c.args.s in
    let buffer : List ℕ = c.args.buffer.now in
    let tape : List ℕ = c.args.tape.now in
    let out : List ℕ × ℕ = (c.args.o.now, c.args.at) in
    let told : Told Outcome = piece_of s buffer c.args.n (room_of (length tape)) in
    record {
      at_after = then out _ _ (piece_text told) (ascii " | ")
          (piece_said told buffer _ tape _ _ c.piece-r.ensures.0 c.piece-r.ensures.1 c.piece-r.ensures.2 c.piece-r.auto.tape out _ c.arrived-a.ensures)
          c.bytes.ensures;
      state_value = c.behind.ensures ∙ ap (next_by s) c.piece-r.ensures.0 ∙ next_says s told;
      buffer_after = c.piece-r.ensures.1;
    }

use Prim.Native.Nat.{ℕ}
use mathlib.Core.List.{List, ◌++◌}
use mathlib.Core.Path.{ap, ◌∙◌}
use lib.ListN.{length}
use Rattle.lines.specs.Out.{put}
use Rattle.pieces.specs.Pieces.{Outcome, piece_of}
use Rattle.pieces.specs.declared.state.Arrival.{Arrival}
use Rattle.rows.specs.Rows.{room_of}
use Rattle.text.specs.Refusals.{Told}
use Rattle.arrivals.specs.Arrives.{piece_text}
use Rattle.arrivals.specs.Any.{left_text, piece_line}
use Rattle.arrivals.proofs.CallLaws.{left_said, piece-line}
use Rattle.arrivals.proofs.CleanLaws.{piece_stands}
use Rattle.arrivals.proofs.arrive_any.piece.Goals as goal

pub returns : goal.returns
returns c =
    let s : Arrival = c.args.s in
    let buffer : List ℕ = c.args.buffer.now in
    let before : List ℕ = c.mark.new.s in
    let out : List ℕ × ℕ = (c.args.o.now, c.args.at) in
    let told : Told Outcome = piece_of s buffer c.args.n (room_of (length before)) in
    piece-line s buffer c.args.n (room_of (length before)) out _
    (piece_stands c.args.tape.now before _ c.mark.ensures c.piece-r.auto.tape out _ _ (piece_text told ++ left_text told buffer)
    (left_said told buffer _ before _ _ c.piece-r.ensures.0 c.piece-r.ensures.1 c.piece-r.ensures.2 c.piece-r.auto.tape out _ c.arrived-a.ensures _ c.left-b.ensures)
    _ c.clean.ensures told _ c.piece-r.ensures.0 c.piece-r.ensures.2 c.arrived_clean.ensures)
    ∙ ap (λ (n : ℕ). put out (piece_line s buffer c.args.n (room_of n))) c.mark.auto.s

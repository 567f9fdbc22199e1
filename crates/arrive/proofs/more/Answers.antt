use Prim.Native.Nat.{ℕ}
use mathlib.Core.List.{List}
use mathlib.Core.Path.{sym, ap, ◌∙◌}
use lib.ListN.{length}
use Rattle.pieces.specs.Pieces.{piece_of}
use Rattle.rows.specs.Rows.{room_of}
use Rattle.arrive.proofs.TurnLaws.{stands}
use Rattle.arrive.proofs.more.Goals as goal

pub returns-then-r : goal.returns-then-r
returns-then-r c = (stands c.args.s (piece_of c.args.s c.args.buf.now c.args.n (room_of (length c.args.tape.now))) _ _ c.piece-r.ensures.1 (sym c.if-r.true ∙ c.piece-r.ensures.2), ap (λ (x : List ℕ × ℕ). x.0) c.piece-r.ensures.0, c.piece-r.ensures.3, c.piece-r.ensures.4)

pub returns : goal.returns
returns c = (stands c.args.s (piece_of c.args.s c.args.buf.now c.args.n (room_of (length c.args.tape.now))) _ _ c.piece-r.ensures.1 (sym c.if-r.false ∙ c.piece-r.ensures.2), ap (λ (x : List ℕ × ℕ). x.0) c.piece-r.ensures.0, c.piece-r.ensures.3, c.piece-r.ensures.4)

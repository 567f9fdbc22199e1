use native.Mathlib.Omega.{arith}
use mathlib.Core.Path.{subst}
use lib.ListN.{length}
use Rattle.rows.specs.Rows.{room_of}
use Rattle.arrivals.specs.declared.arrive_any.Last.{Last}
use Rattle.arrivals.specs.inner.Calls.{Holds}
use Rattle.arrivals.proofs.CallLaws.{called_piece, called_end, called_bad}
use Rattle.arrivals.proofs.arrive_any.call.Goals as goal

pub overflow_add-held : goal.overflow_add-held
overflow_add-held c = omega (arith, subst (λ (x : Last). Holds x c.args.k (length c.args.text.now)) c.in-Piece.is c.requires)

pub slice_bounds-piece-end : goal.slice_bounds-piece-end
slice_bounds-piece-end c = omega (arith, subst (λ (x : Last). Holds x c.args.k (length c.args.text.now)) c.in-Piece.is c.requires)

pub returns-in-Piece : goal.returns-in-Piece
returns-in-Piece c = called_piece c.args.last c.args.s c.args.k c.args.text.now (room_of (length c.args.tape.now)) (c.args.o.now, c.args.at) _ c.in-Piece.n c.in-Piece.is c.piece.ensures

pub returns-in-End : goal.returns-in-End
returns-in-End c = called_end c.args.last c.args.s c.args.k c.args.text.now (room_of (length c.args.tape.now)) (c.args.o.now, c.args.at) _ c.in-End.is _ c.part.ensures c.end.ensures

pub returns-in-Bad : goal.returns-in-Bad
returns-in-Bad c = called_bad c.args.last c.args.s c.args.k c.args.text.now (room_of (length c.args.tape.now)) (c.args.o.now, c.args.at) _ c.in-Bad.is c.bad.ensures

use Prim.Native.Nat.{◌+◌, ◌≤◌}
use mathlib.Core.List.{[]}
use mathlib.Core.Path.{◌≡◌}
use lib.ListN.{length, take, drop}
use Rattle.lines.specs.Out.{put}
use Rattle.pieces.specs.Pieces.{begun}
use Rattle.rows.specs.Rows.{room_of}
use Rattle.arrivals.specs.Texts.{sum_of, pieces_of, answers_from}
use Rattle.arrivals.proofs.TextLaws.{left_text}
use Rattle.arrivals.proofs.arrive_text.pieces.Given as goal

abbrev pub invariant-loop-cut : goal.invariant-loop-cut
invariant-loop-cut l =
    (length l.text ≡ length l.initial.text) × (length l.tape ≡ length l.initial.tape) × (length l.o ≡ length l.initial.o) × (l.s.kept ≤ l.s.from)
    × (l.s.from + sum_of (drop l.cut-index l.cuts) ≤ l.n)
    × (put (l.o, l.s.at) (left_text (drop l.cut-index l.cuts) l.n l.s l.text (room_of (length l.initial.tape)))
    ≡ put (l.initial.o, l.at) (answers_from (pieces_of l.cuts (take l.n l.initial.text)) begun [] (room_of (length l.initial.tape))))

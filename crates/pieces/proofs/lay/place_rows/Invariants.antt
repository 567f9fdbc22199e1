use Rattle.pieces.proofs.LayLaws.{Left}
use Rattle.pieces.specs.Pieces.{gapped, moved_to}
use Rattle.rows.specs.Rows.{entries_of, laid}
use lib.ListN.{length}
use mathlib.Core.Path.{◌≡◌}
use mathlib.Core.List.{map}
use Rattle.pieces.proofs.lay.place_rows.Given as goal

abbrev pub invariant-loop-i : goal.invariant-loop-i
invariant-loop-i l =
    (length l.tape ≡ length l.initial.tape) × Left l.n l.base l.limit (laid (gapped l.former (map (moved_to l.base) (entries_of l.n l.initial.tape))) l.initial.tape) l.i l.tape l.behind

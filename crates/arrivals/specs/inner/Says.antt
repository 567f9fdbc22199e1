-- What is said of a call, by the code's answer and the tape that it left.
use Rattle.std.specs.Prelude.{ℕ, ◌*◌, min, Bool, List, [], ◌∷◌, ◌++◌, length, drop}
use Rattle.lent.specs.Marks.{mark_at, kept_from}
use Rattle.lines.specs.Decimal.{decimal}
use Rattle.pieces.specs.declared.state.Arrived.{Arrived}
use Rattle.pieces.specs.declared.state.Arrived.TheVariants as arrived
use Rattle.pieces.specs.declared.state.Ended.{Ended}
use Rattle.pieces.specs.declared.state.Ended.TheVariants as ended
use Rattle.rows.specs.Rows.{room_of, width}
use Rattle.show.specs.Answers.{refused_text}
use Rattle.show.specs.Readings.{tape_text}
use Rattle.text.specs.declared.refusal.Refusal.{Refusal}
use Rattle.arrivals.specs.States.{stands_text}

-- So many entries of a tape.
unfoldable pub counted_text : ℕ → List ℕ → List ℕ
counted_text n tape = decimal n ++ tape_text 59 tape n

-- The same, and a refusal behind them.
unfoldable pub stopped_text : ℕ → Refusal → List ℕ → List ℕ
stopped_text n r tape = counted_text n tape ++ (59 ∷ refused_text r)

-- What is said of an end.
abbrev pub ended_text : Ended → List ℕ → List ℕ
ended_text (ended.Given n) tape = counted_text n tape
ended_text (ended.Stopped n r) tape = stopped_text n r tape
ended_text (ended.Refused r) tape = refused_text r

-- What a piece comes to, without the state behind it.
abbrev pub without_state : Arrived → Ended
without_state (arrived.Given n a) = ended.Given n
without_state (arrived.Stopped n r a) = ended.Stopped n r
without_state (arrived.Refused r) = ended.Refused r

-- What is said of the state behind a piece.
abbrev pub leaves_text : Arrived → List ℕ → List ℕ
leaves_text (arrived.Given n a) buffer = stands_text a buffer
leaves_text (arrived.Stopped n r a) buffer = stands_text a buffer
leaves_text (arrived.Refused r) buffer = []

-- How many entries were given.
abbrev pub count_of : Ended → ℕ
count_of (ended.Given n) = n
count_of (ended.Stopped n r) = n
count_of (ended.Refused r) = 0

-- All marks of a tape stand behind the entries that were given.
unfoldable pub is_clean : Ended → List ℕ → Bool
is_clean r tape = let k = width * min (count_of r) (room_of (length tape)) in kept_from mark_at (drop k tape) k

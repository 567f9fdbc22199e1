-- What is printed of a call and what follows it, by the code's answer and the tape that it left.
use Rattle.std.specs.Prelude.{ℕ, min, Bool, true, false, List, ◌++◌, length}
use Rattle.pieces.specs.declared.state.Arrival.{Arrival}
use Rattle.pieces.specs.declared.state.Arrived.{Arrived}
use Rattle.pieces.specs.declared.state.Arrived.TheVariants as arrived
use Rattle.pieces.specs.declared.state.Ended.{Ended}
use Rattle.pieces.specs.declared.state.Ended.TheVariants as ended
use Rattle.rows.specs.Rows.{room_of, entries_of}
use Rattle.text.specs.declared.refusal.Refusal.{Refusal}
use Rattle.arrive.specs.Printed.{lines_text, refusal_text}

-- The lines of the first n entries of a tape, as far as it has room for them.
unfoldable pub tape_lines : List ℕ → ℕ → List ℕ
tape_lines tape n = lines_text (entries_of (min n (room_of (length tape))) tape)

-- The same, and a refusal's behind them.
unfoldable pub stopped_text : ℕ → Refusal → List ℕ → List ℕ
stopped_text n r tape = tape_lines tape n ++ refusal_text r

-- What is printed of an end.
abbrev pub ended_text : Ended → List ℕ → List ℕ
ended_text (ended.Given n) tape = tape_lines tape n
ended_text (ended.Stopped n r) tape = stopped_text n r tape
ended_text (ended.Refused r) tape = refusal_text r

-- What a piece comes to, without the state behind it.
abbrev pub without_state : Arrived → Ended
without_state (arrived.Given n a) = ended.Given n
without_state (arrived.Stopped n r a) = ended.Stopped n r
without_state (arrived.Refused r) = ended.Refused r

-- The state behind a piece.
abbrev pub next_by : Arrival → Arrived → Arrival
next_by s (arrived.Given n a) = a
next_by s (arrived.Stopped n r a) = a
next_by s (arrived.Refused r) = s

-- Whether the text goes on behind a piece.
abbrev pub on_by : Arrived → Bool
on_by (arrived.Given n a) = true
on_by (arrived.Stopped n r a) = false
on_by (arrived.Refused r) = false

-- What the code's own answer for a piece or the end goes out as.
use Rattle.std.specs.Prelude.{ℕ, List}
use Rattle.pieces.specs.declared.state.Arrived.{Arrived}
use Rattle.pieces.specs.declared.state.Arrived.TheVariants as arrived
use Rattle.pieces.specs.declared.state.Ended.{Ended}
use Rattle.pieces.specs.declared.state.Ended.TheVariants as ended
use Rattle.stored.specs.Numbers.{stored_in}
use Rattle.sarridok_c.specs.Packed.{refusal_word}

-- The number answered for a piece,
abbrev pub arrived_word : Arrived → ℕ
arrived_word (arrived.Given n a) = 0
arrived_word (arrived.Stopped n r a) = refusal_word r
arrived_word (arrived.Refused r) = refusal_word r

-- the count afterwards,
abbrev pub arrived_count : Arrived → ℕ → ℕ
arrived_count (arrived.Given n a) before = n
arrived_count (arrived.Stopped n r a) before = n
arrived_count (arrived.Refused r) before = before

-- and the state's numbers.
abbrev pub arrived_state : Arrived → List ℕ → List ℕ
arrived_state (arrived.Given n a) state = stored_in a state
arrived_state (arrived.Stopped n r a) state = stored_in a state
arrived_state (arrived.Refused r) state = state

-- The number answered for the end,
abbrev pub ended_word : Ended → ℕ
ended_word (ended.Given n) = 0
ended_word (ended.Stopped n r) = refusal_word r
ended_word (ended.Refused r) = refusal_word r

-- and the count afterwards.
abbrev pub ended_count : Ended → ℕ → ℕ
ended_count (ended.Given n) before = n
ended_count (ended.Stopped n r) before = n
ended_count (ended.Refused r) before = before

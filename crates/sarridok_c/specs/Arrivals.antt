-- A text that arrives (document 02, change request 3), over a state of lent numbers: the nine of crate stored, and how many bytes are kept. Numbers that no state has are
-- 23, and so are fewer than ten: nothing is cut off. "One answer may carry entries with a refusal behind them": the number answered is then that of the refusal, and
-- the entries, their count and the state behind them are written; 22 and 23 stand alone, and write nothing.
use Rattle.pieces.specs.declared.state.Arrival.{Arrival}
use Rattle.std.specs.Prelude.{Ok, Err, Some, None, Option, ℕ, cond, List, eqb, leb, get_or, length}
use Rattle.pieces.specs.Ends.{Rest, finish_of}
use Rattle.pieces.specs.Pieces.{Outcome, piece_of}
use Rattle.stored.specs.Numbers.{state_of, stored_in}
use Rattle.text.specs.Refusals.{Told, no_room, not_in_order}
use Rattle.text.specs.declared.refusal.Refusal.{Refusal}
use Rattle.sarridok_c.specs.Packed.{refusal_word}

-- ---- the state

-- The state that lent numbers say: the first nine, and how many bytes are kept.
unfoldable pub lent_state : List ℕ → Option Arrival
lent_state s = cond (leb 10 (length s)) (state_of s (get_or s 9 0)) None

-- The beginning, in a slice of so many numbers: 22 where a state has more.
abbrev pub begin_numbered : ℕ → Told Unit
begin_numbered n = cond (leb 10 n) (Ok tt) (Err no_room)

-- ---- a piece

-- A piece, where the state is known.
abbrev pub piece_by : Option Arrival → List ℕ → ℕ → ℕ → Told Outcome
piece_by (Some a) buffer n room = piece_of a buffer n room
piece_by None buffer n room = Err not_in_order

-- A piece of n bytes behind what is kept, over lent numbers.
unfoldable pub piece_numbered : List ℕ → List ℕ → ℕ → ℕ → Told Outcome
piece_numbered state buffer n room = piece_by (lent_state state) buffer n room

-- The number of a refusal behind entries: 0 where there is none.
abbrev pub behind_word : Refusal → ℕ
behind_word d = cond (eqb d.number 0) 0 (refusal_word d)

-- A piece's refusal, which the state behind it holds,
abbrev pub outcome_refusal : Outcome → Refusal
outcome_refusal o = o.next.refusal

-- the number of it,
abbrev pub outcome_word : Outcome → ℕ
outcome_word o = behind_word (outcome_refusal o)

-- and how many entries it gives.
abbrev pub outcome_count : Outcome → ℕ
outcome_count o = length o.entries

-- The state's numbers afterwards: those of the state behind the piece, or what they were.
abbrev pub state_after : Told Outcome → List ℕ → List ℕ
state_after (Ok o) state = stored_in o.next state
state_after (Err r) state = state

-- ---- the end

-- The end, where the state is known.
abbrev pub finish_by : Option Arrival → List ℕ → ℕ → Told Rest
finish_by (Some a) buffer room = finish_of a buffer room
finish_by None buffer room = Err not_in_order

-- The end of the text, over lent numbers.
unfoldable pub finish_numbered : List ℕ → List ℕ → ℕ → Told Rest
finish_numbered state buffer room = finish_by (lent_state state) buffer room

-- The number of its refusal behind the entries,
abbrev pub rest_word : Rest → ℕ
rest_word e = behind_word e.refusal

-- and how many entries it gives.
abbrev pub rest_count : Rest → ℕ
rest_count e = length e.entries

-- `Q NUMBERS STATE KEPT PIECE`: one call over any state, with a tape of so many numbers; `ANSWER -> STATE KEPT` for a piece, the answer alone for the end.
use Rattle.std.specs.Prelude.{Ok, Err, ℕ, ◌-◌, min, Bool, cond, ◌&&◌, List, [], ◌++◌, eqb, length, get_or, Option, Some, None}
use Rattle.pieces.specs.Ends.{finish_of}
use Rattle.pieces.specs.Pieces.{Outcome, kept_in, piece_of}
use Rattle.pieces.specs.declared.state.Arrival.{Arrival}
use Rattle.rows.specs.Rows.{room_of}
use Rattle.show.specs.Answers.{bad_text, refused_text}
use Rattle.stored.specs.Numbers.{state_of}
use Rattle.text.specs.Refusals.{Told, not_in_order}
use Rattle.words.specs.Hex.{hex_in, pairs}
use Rattle.words.specs.Number.{decimal_of}
use Rattle.words.specs.Said.{by_number, by_bytes, by_numbers}
use Rattle.words.specs.Split.{first_word, behind_word}
use Rattle.arrivals.specs.Arrives.{piece_text, end_text}
use Rattle.arrivals.specs.States.{spoken_by, stands_text}
use Rattle.arrivals.specs.declared.arrive_any.Last.{Last}
use Rattle.arrivals.specs.declared.arrive_any.Last.TheVariants as last
use Rattle.arrivals.specs.declared.states.Spoken.{Spoken}
use Rattle.arrivals.specs.declared.states.Spoken.TheVariants as spoken

-- ---- the words

-- `end`
unfoldable pub is_end : List ℕ → Bool
is_end s = eqb (length s) 3 && (eqb (get_or s 0 0) 101 && (eqb (get_or s 1 0) 110 && eqb (get_or s 2 0) 100))

-- The last word: bytes, for which there is room, or `end`.
abbrev pub last_by : Option ℕ → List ℕ → Last
last_by (Some n) word = last.Piece n
last_by None word = cond (is_end word) last.End last.Bad

unfoldable pub last_of : List ℕ → ℕ → Last
last_of word room = last_by (hex_in word room) word

-- The state: nine numbers, with so many bytes kept.
unfoldable pub spoken_of : List ℕ → ℕ → ℕ → Spoken
spoken_of word kept room = by_numbers word room spoken.Bad (λ s. cond (eqb (length s) 9) (spoken_by (state_of s kept)) spoken.Bad)

-- ---- the call

-- What a piece leaves: nothing is said of it where the piece was not taken.
abbrev pub left_text : Told Outcome → List ℕ → List ℕ
left_text (Ok o) buffer = stands_text o.next (kept_in (Ok o) buffer)
left_text (Err r) buffer = []

-- What the last n bytes of a buffer say and leave as a piece.
unfoldable pub piece_line : Arrival → List ℕ → ℕ → ℕ → List ℕ
piece_line a buffer n room = let told = piece_of a buffer n room in piece_text told ++ left_text told buffer

-- By the last word: a piece w behind what is kept, or the end.
abbrev pub call_by : Last → Arrival → (kept w : List ℕ) → ℕ → List ℕ
call_by (last.Piece n) a kept w room = piece_line a (kept ++ w) (length w) room
call_by last.End a kept w room = end_text (finish_of a kept room)
call_by last.Bad a kept w room = bad_text

-- Numbers that no state has: 23, where the last word says a call.
abbrev pub unfit_text : Last → List ℕ
unfit_text (last.Piece n) = refused_text not_in_order
unfit_text last.End = refused_text not_in_order
unfit_text last.Bad = bad_text

-- By the state.
abbrev pub call_text : Spoken → Last → (kept w : List ℕ) → ℕ → List ℕ
call_text (spoken.State a) l kept w room = call_by l a kept w room
call_text spoken.Unfit l kept w room = unfit_text l
call_text spoken.Bad l kept w room = bad_text

-- ---- the line

-- Room in a tape of so many numbers, or of all that are there.
unfoldable pub room_for : ℕ → ℕ → ℕ
room_for n numbers = room_of (min n numbers)

-- `STATE KEPT PIECE`, with so much space for bytes and so many numbers there.
unfoldable pub state_line : ℕ → List ℕ → ℕ → ℕ → List ℕ
state_line n words space numbers =
    let two = behind_word words in
    let three = behind_word two in
    by_bytes (first_word two) space bad_text (λ kept.
    call_text (spoken_of (first_word words) (length kept) numbers) (last_of three (space - length kept)) kept (pairs three) (room_for n numbers))

-- `Q NUMBERS STATE KEPT PIECE`
unfoldable pub any_line : List ℕ → ℕ → ℕ → List ℕ
any_line words space numbers = by_number (decimal_of (first_word words)) bad_text (λ n. state_line n (behind_word words) space numbers)

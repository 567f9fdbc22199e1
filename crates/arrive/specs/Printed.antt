-- What the program prints (document 02, change request 3): "We want to hand over each piece and get the entries decided so far. .. One answer may carry entries with
-- a refusal behind them". An entry's five numbers on a line of its own, and a refusal's number and place last, as the program `tape` prints them.
use Rattle.std.specs.Prelude.{Ok, Err, ℕ, Bool, false, cond, List, [], ◌∷◌, ◌++◌, eqb}
use Rattle.lines.specs.Decimal.{decimal, word_of}
use Rattle.pieces.specs.Ends.{Rest}
use Rattle.pieces.specs.Pieces.{Outcome}
use Rattle.pieces.specs.declared.state.Arrival.{Arrival}
use Rattle.rows.specs.declared.Entry.{Entry}
use Rattle.show.specs.Answers.{placed_text}
use Rattle.text.specs.Refusals.{Told}
use Rattle.text.specs.declared.refusal.Refusal.{Refusal}

-- An entry's line.
unfoldable pub line_text : Entry → List ℕ
line_text e = decimal e.kind ++ word_of e.start ++ word_of e.end ++ word_of e.detail ++ word_of e.gap ++ (10 ∷ [])

-- A line for each entry.
unfoldable pub lines_text : List Entry → List ℕ
lines_text [] = []
lines_text (e ∷ es) = line_text e ++ lines_text es

-- A refusal's line.
unfoldable pub refusal_text : Refusal → List ℕ
refusal_text r = placed_text r ++ (10 ∷ [])

-- Entries, and the refusal behind them, whose number is 0 where there is none.
unfoldable pub given_text : List Entry → Refusal → List ℕ
given_text es d = lines_text es ++ cond (eqb d.number 0) [] (refusal_text d)

-- What is printed of a piece.
abbrev pub piece_text : Told Outcome → List ℕ
piece_text (Ok o) = given_text o.entries o.next.refusal
piece_text (Err r) = refusal_text r

-- What is printed of the end.
abbrev pub end_text : Told Rest → List ℕ
end_text (Ok e) = given_text e.entries e.refusal
end_text (Err r) = refusal_text r

-- The state behind a piece: as it was where the piece was not taken.
abbrev pub next_of : Arrival → Told Outcome → Arrival
next_of a (Ok o) = o.next
next_of a (Err r) = a

-- Whether the text goes on behind a piece: nothing was refused.
abbrev pub goes_on : Told Outcome → Bool
goes_on (Ok o) = eqb o.next.refusal.number 0
goes_on (Err r) = false

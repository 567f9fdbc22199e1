-- What the calls `piece` and `finish` say (document 02, change request 3: "One answer may carry entries with a refusal behind them"):
-- `N;kind start end detail gap;..`, and `;refused NUMBER PLACE REASON` last if refused.
use Rattle.std.specs.Prelude.{Ok, Err, ℕ, cond, List, [], ◌∷◌, ◌++◌, eqb, length, take}
use Rattle.lines.specs.Decimal.{decimal}
use Rattle.pieces.specs.Ends.{Rest}
use Rattle.pieces.specs.Pieces.{Outcome, kept_in}
use Rattle.pieces.specs.declared.state.Arrival.{Arrival}
use Rattle.rows.specs.declared.Entry.{Entry}
use Rattle.show.specs.Answers.{refused_text}
use Rattle.show.specs.Readings.{entries_text}
use Rattle.text.specs.Refusals.{Told}
use Rattle.text.specs.declared.refusal.Refusal.{Refusal}

-- How many entries, these, and the refusal behind them, whose number is 0 where there is none.
unfoldable pub given_text : List Entry → Refusal → List ℕ
given_text es d = decimal (length es) ++ entries_text 59 es ++ cond (eqb d.number 0) [] (59 ∷ refused_text d)

-- What a piece says; 22 and 23 stand alone.
abbrev pub piece_text : Told Outcome → List ℕ
piece_text (Ok o) = given_text o.entries o.next.refusal
piece_text (Err r) = refused_text r

-- What the end says.
abbrev pub end_text : Told Rest → List ℕ
end_text (Ok e) = given_text e.entries e.refusal
end_text (Err r) = refused_text r

-- The state behind a piece: as it was where the piece was not taken.
abbrev pub next_of : Arrival → Told Outcome → Arrival
next_of a (Ok o) = o.next
next_of a (Err r) = a

-- The bytes that are kept behind it: the buffer's first, as many as the state says.
abbrev pub kept_behind : Arrival → Told Outcome → List ℕ → List ℕ
kept_behind a told buffer = take (next_of a told).kept (kept_in told buffer)

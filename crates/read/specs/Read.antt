-- Read (document 01): "text into a tape, a lent slice of 32-bit numbers. Whitespace and comments make no entry. Order: 1, 2, .. then the refusals of
-- reading in text order, .. and 22 last. A refused call writes nothing. An accepted read leaves the slice behind what it writes as it found it."
use Rattle.std.specs.Prelude.{Ok, Err, ℕ, cond, List, ltb, length}
use Rattle.text.specs.Refusals.{Told, no_room}
use Rattle.text.specs.Judged.{judged_of, behind_judged}
use Rattle.rows.specs.Rows.{room_of, laid}
use Rattle.reading.specs.Readings.{Reading, read_from, counted, entries}
use Rattle.tokens.specs.Ron.{ron_token}

-- The reading of a text.
abbrev pub reading_of : List ℕ → Reading
reading_of text = read_from ron_token text 0

-- 22 where there are more entries than room.
abbrev pub room_for : ℕ → Told ℕ → Told ℕ
room_for room (Ok n) = cond (ltb room n) (Err no_room) (Ok n)
room_for room (Err r) = Err r

-- What a reading answers, given room for so many entries: 22 comes last.
abbrev pub fitted : ℕ → Reading → Told ℕ
fitted room reading = room_for room (counted 0 reading)

-- The tape behind an answer: the entries in front where it is accepted, else as it was.
abbrev pub laid_by : Told ℕ → Reading → List ℕ → List ℕ
laid_by (Ok n) reading tape = laid (entries reading) tape
laid_by (Err r) reading tape = tape

-- What a read of a text answers over a tape of so many numbers.
unfoldable pub read_answer : List ℕ → ℕ → Told ℕ
read_answer text numbers = behind_judged (judged_of text) (fitted (room_of numbers) (reading_of text))

-- The tape after a read.
unfoldable pub read_tape : List ℕ → List ℕ → List ℕ
read_tape text tape = laid_by (read_answer text (length tape)) (reading_of text) tape

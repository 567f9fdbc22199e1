-- The call `finish` (document 02, change request 3): "An entry is decided once .. the text has ended", so the rest is read as it stands; a character cut off is 2. The
-- state stays as it was: after 22 the end may be asked again.
use Rattle.std.specs.Prelude.{ℕ, ◌-◌, cond, ◌&&◌, List, [], map, eqb, leb, ltb, length, take, Ok, Err}
use Rattle.text.specs.Refusals.{Told, no_room, not_in_order, not_utf8, placed_behind, eof, unclosed_block_comment, unexpected_char}
use Rattle.text.specs.declared.refusal.Refusal.{Refusal}
use Rattle.rows.specs.Rows.{laid}
use Rattle.rows.specs.declared.Entry.{Entry}
use Rattle.gaps.specs.Passes.{passed_of}
use Rattle.gaps.specs.declared.pass.Passed.{Passed}
use Rattle.gaps.specs.declared.pass.Passed.TheVariants.{Begins, Within, Unexpected}
use Rattle.gaps.specs.declared.state.Open.{Open}
use Rattle.gaps.specs.declared.state.Open.TheVariants.{Clear, Slash, Line, Block}
use Rattle.reading.specs.Readings.{Reading, complete, broken, entry, entries, read_from}
use Rattle.tokens.specs.Ron.{ron_token}
use Rattle.pieces.specs.Orders.{in_order}
use Rattle.pieces.specs.Pieces.{gapped, moved_to, no_refusal}
use Rattle.pieces.specs.declared.state.Arrival.{Arrival}
use Rattle.pieces.specs.declared.state.Ended.{Ended}
use Rattle.pieces.specs.declared.state.Ended.TheVariants as ended

-- How a text ends inside a gap: 6 behind a `/`, 4 in a block comment, at its end.
abbrev pub ends_in : Open → ℕ → Reading
ends_in Clear end = complete
ends_in Slash end = broken (eof end)
ends_in Line end = complete
ends_in (Block level last) end = broken (unclosed_block_comment end)

-- The reading of what is kept, places counted from its front, by where its whitespace and comments end.
abbrev pub rest_by : Passed → List ℕ → Reading
rest_by (Begins k) s = read_from ron_token s k
rest_by (Within o) s = ends_in o (length s)
rest_by (Unexpected p) s = broken (unexpected_char p)

-- The reading of what is kept, where this is open.
unfoldable pub rest_of : Open → List ℕ → Reading
rest_of o s = rest_by (passed_of o s) s

-- How a reading ends: its refusal, 0 where it is complete.
unfoldable pub last_of : Reading → Refusal
last_of complete = no_refusal
last_of (broken d) = d
last_of (entry e r) = last_of r

-- What the end gives: entries, and a refusal behind them.
pub record Rest : Type 0 where
  pub entries : List Entry
  pub refusal : Refusal

-- A refusal behind entries told from the front of what is kept.
abbrev pub placed_last : ℕ → Refusal → Refusal
placed_last base d = cond (eqb d.number 0) no_refusal (placed_behind base d)

-- The rest of a state that is not refused: 2 where a character is cut off, else the reading of what is kept.
unfoldable pub ending_of : Arrival → List ℕ → Rest
ending_of a kept =
    let r = rest_of a.gap kept in
    let base = a.taken - a.kept in
    cond (ltb 0 a.part)
    (record { entries = []; refusal = not_utf8 (a.taken - a.part) })
    (record { entries = gapped a.former (map (moved_to base) (entries r)); refusal = placed_last base (last_of r) })

-- 22 where the entries do not fit.
abbrev pub fitting : ℕ → Rest → Told Rest
fitting room e = cond (ltb room (length e.entries)) (Err no_room) (Ok e)

-- The whole answer: 23; the state's own refusal; 22.
unfoldable pub finish_of : Arrival → List ℕ → ℕ → Told Rest
finish_of a buffer room =
    let rest = fitting room (ending_of a (take a.kept buffer)) in
    cond (in_order a && leb a.kept (length buffer))
    (cond (eqb a.refusal.number 0) rest (Ok (record { entries = []; refusal = a.refusal })))
    (Err not_in_order)

-- The code's answer.
abbrev pub ended_of : Told Rest → Ended
ended_of (Ok e) = cond (eqb e.refusal.number 0) (ended.Given (length e.entries)) (ended.Stopped (length e.entries) e.refusal)
ended_of (Err r) = ended.Refused r

-- The tape afterwards.
abbrev pub rest_laid : Told Rest → List ℕ → List ℕ
rest_laid (Ok e) tape = laid e.entries tape
rest_laid (Err r) tape = tape

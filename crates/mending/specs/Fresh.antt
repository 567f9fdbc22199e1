-- The mission's third demand: for every old text whose accepted reading the tape holds, and every new text that differs in one run of bytes, a repair
-- answers as a fresh reading of the new text with the same room does. Document 01: "Shown with it: k reaches from the first new entry, at or behind the
-- new bytes' end, that starts where a moved old entry starts, to the last; if none does, k is 0." Document 02, CR 6: "the first new entry is then the
-- first whose gap agrees too".
use Rattle.std.specs.Prelude.{Ok, Err, ℕ, ◌+◌, ◌-◌, ◌≤◌, ◌≡◌, Bool, false, not, ◌&&◌, ◌||◌, List, [], ◌∷◌, leb, eqb, length}
use Rattle.text.specs.Refusals.{Told}
use Rattle.rows.specs.Rows.{room_of, entries_of, laid}
use Rattle.rows.specs.declared.Entry.{Entry}
use Rattle.reading.specs.Owed.{quiet_byte}
use Rattle.reading.specs.Kept.{Replaced, kept_before, kept_behind}
use Rattle.reading.specs.Readings.{◌▸◌, complete, entries}
use Rattle.read.specs.Read.{reading_of, fitted, read_answer}
use Rattle.repair.specs.Repair.{cleared, leading}
use Rattle.repair.specs.declared.repairer.Repaired.{Repaired}

-- The tape holds the accepted reading of an old text, in which the bytes from a to b were replaced by others; in the new text these end at e.
pub record OldText (old tape : List ℕ) (count a b e : ℕ) (new : List ℕ) : Type 0 where
  pub replaced : Replaced old new a b e
  pub holds : reading_of old ≡ entries_of count tape ▸ complete
  pub room : count ≤ room_of (length tape)

-- The answer of a reading, with what was kept of the old entries.
abbrev pub with_kept : ℕ → ℕ → Told ℕ → Told Repaired
with_kept before behind (Ok n) = Ok (record { count = n; before = before; behind = behind })
with_kept before behind (Err r) = Err r

-- What a repair is to answer: what a fresh reading with the same room answers, and document 01's counts.
unfoldable pub fresh_answer : List ℕ → List ℕ → ℕ → ℕ → ℕ → List ℕ → Told Repaired
fresh_answer old tape count a e new =
    let was = entries_of count tape in
    let before = kept_before quiet_byte old a was in
    let behind = kept_behind (length old) (length new) e was (entries (reading_of new)) in
    with_kept before behind (fitted (room_of (length tape)) (reading_of new))

-- The new entries, zeros up to the old count, and beyond it what stood there; as it was where the reading is refused.
abbrev pub fresh_by : Told ℕ → List ℕ → ℕ → List ℕ → List ℕ
fresh_by (Ok n) tape count new = laid (entries (reading_of new)) (cleared count tape)
fresh_by (Err r) tape count new = tape

-- What the tape is to hold then.
unfoldable pub fresh_tape : List ℕ → ℕ → List ℕ → List ℕ
fresh_tape tape count new = fresh_by (fitted (room_of (length tape)) (reading_of new)) tape count new

-- The same of the calls: what `repair` is to answer and to leave, by what `read` answers over the new text and a tape of the same length.
unfoldable pub fresh_call : List ℕ → List ℕ → ℕ → ℕ → ℕ → List ℕ → Told Repaired
fresh_call old tape count a e new =
    let was = entries_of count tape in
    let before = kept_before quiet_byte old a was in
    let behind = kept_behind (length old) (length new) e was (entries (reading_of new)) in
    with_kept before behind (read_answer new (length tape))

-- The tape that a fresh reading of the new text leaves: its entries, zeros up to the old count, and what stood behind.
unfoldable pub fresh_call_tape : List ℕ → ℕ → List ℕ → List ℕ
fresh_call_tape tape count new = fresh_by (read_answer new (length tape)) tape count new

-- ---- the sentence shown with the count

-- A moved old entry starts where x does, and its gap agrees, the old text having o bytes and the new one n.
unfoldable pub starts_moved : ℕ → ℕ → List Entry → Entry → Bool
starts_moved o n [] x = false
starts_moved o n (y ∷ ys) x = (eqb (x.start + o) (y.start + n) && eqb x.gap y.gap) || starts_moved o n ys x

-- x does not start so, at e or behind it.
abbrev pub apart : ℕ → ℕ → ℕ → List Entry → Entry → Bool
apart o n e old x = not (leb e x.start && starts_moved o n old x)

-- How many new entries there are from the first on that does.
unfoldable pub reaching : ℕ → ℕ → ℕ → List Entry → List Entry → ℕ
reaching o n e old new = length new - leading (apart o n e old) new

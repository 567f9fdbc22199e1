-- A pass over a text. Read (document 01) makes two with one loop: "a refused call writes nothing", so the first only counts, and the second lays the
-- entries on the tape. Repair lays so many entries from a place on.
use Rattle.std.specs.Prelude.{Ok, Err, ℕ, zero, suc, ◌+◌, Bool, cond, List}
use Rattle.rows.specs.Rows.{laid}
use Rattle.text.specs.Refusals.{Told}
use Rattle.reading.specs.Readings.{Reading, complete, broken, entry, entries}
use Rattle.read.specs.declared.scanned.Scanned.{Scanned}

-- A reading up to its first n entries, complete there.
unfoldable pub up_to : ℕ → Reading → Reading
up_to zero r = complete
up_to (suc n) complete = complete
up_to (suc n) (broken d) = broken d
up_to (suc n) (entry e r) = entry e (up_to n r)

-- The tape behind a pass: the reading's entries in front where the pass writes, else as it was.
abbrev pub passed_tape : Bool → Reading → List ℕ → List ℕ
passed_tape on r tape = cond on (laid (entries r) tape) tape

-- What a reading comes to behind so many entries, the last of which ends at a place, and the one before it at another: its entries counted, where the last two end, and how it ends.
unfoldable pub scanned_on : ℕ → ℕ → ℕ → Reading → Scanned
scanned_on count end before complete = record { count = count; end = end; before = before; ending = Ok tt }
scanned_on count end before (broken d) = record { count = count; end = end; before = before; ending = Err d }
scanned_on count end before (entry e r) = scanned_on (count + 1) e.end end r

-- The same from a place on, before which there is no entry.
abbrev pub scanned_from : ℕ → Reading → Scanned
scanned_from from r = scanned_on 0 from from r

-- How a reading ends.
unfoldable pub ending_of : Reading → Told Unit
ending_of complete = Ok tt
ending_of (broken d) = Err d
ending_of (entry e r) = ending_of r

-- In the paper's words: how many entries, or the refusal.
abbrev pub told_by : Told Unit → ℕ → Told ℕ
told_by (Ok tt) count = Ok count
told_by (Err d) count = Err d

-- What a part holds: its entries counted, and how its reading ends.
use Rattle.text.specs.Refusals.{Told}
use Rattle.std.specs.Prelude.{ℕ, ◌-◌, List, length, take}
use Rattle.rows.specs.declared.Entry.{Entry}
use Rattle.reading.specs.Readings.{end_of, entries, read_part}
use Rattle.tokens.specs.Ron.{ron_token}
use Rattle.read.specs.declared.scanned.Scanned.{Scanned}
unfoldable pub use Rattle.read.specs.inner.Pass.{ending_of}

-- Entries counted from the front of their part.
abbrev pub scanned_by : List Entry → Told Unit → Scanned
scanned_by es ending = record { count = length es; end = end_of 0 es; before = end_of 0 (take (length es - 1) es); ending = ending }

-- What a part holds.
unfoldable pub scanned_of : List ℕ → Scanned
scanned_of part = let r = read_part ron_token 0 part in scanned_by (entries r) (ending_of r)

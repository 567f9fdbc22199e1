-- What a byte decides, told as numbers: over the theory of crate arriving.
use Rattle.text.specs.Refusals.{Told}
use Rattle.std.specs.Prelude.{ℕ, ◌-◌, cond, List, eqb, drop, get_or, length, Ok, Err}
use Rattle.rows.specs.declared.Entry.{Entry}
use Rattle.reading.specs.Readings.{end_of}
use Rattle.arriving.specs.Arrivals.{Coming, Given, behind, decided, going, halted, shut}
use Rattle.settled.specs.Bytes.{decides_byte}
use Rattle.settled.specs.Settled.{ron_reader, ron_settles}
use Rattle.read.specs.declared.scanned.Scanned.{Scanned}
use Rattle.pieces.specs.declared.verdict.Verdict.{Verdict}
use Rattle.pieces.specs.declared.verdict.Verdict.TheVariants.{Nothing, Gives, Shuts}

-- So many entries, if any.
unfoldable pub gives_of : ℕ → ℕ → Verdict
gives_of count end = cond (eqb count 0) Nothing (Gives count end)

-- Entries, and what stands behind them.
abbrev pub verdict_by : List Entry → Coming → Verdict
verdict_by es (going at rest) = gives_of (length es) (end_of 0 es)
verdict_by es (shut d) = Shuts (length es) (end_of 0 es) d
verdict_by es (halted d) = Shuts (length es) (end_of 0 es) d

-- What was given.
abbrev pub verdict_of : Given → Verdict
verdict_of g = verdict_by g.entries g.next

-- What the last byte of a part decides where no entry ends with it, by what the part holds.
abbrev pub decided_by : Told Unit → List ℕ → Scanned → Verdict
decided_by (Ok tt) part s = cond (decides_byte (get_or part (length part - 1) 0)) (gives_of s.count s.end) Nothing
decided_by (Err d) part s =
    cond (ron_settles (drop s.end part)) (Shuts s.count s.end d)
    (cond (decides_byte (get_or part (length part - 1) 0)) (gives_of s.count s.end) Nothing)

unfoldable pub behind_of : List ℕ → Scanned → Verdict
behind_of part s = decided_by s.ending part s

-- What the last byte of a part decides, if it is looked at.
unfoldable pub judged_of : List ℕ → Verdict
judged_of part = verdict_of (behind ron_reader 0 part (decided ron_reader 0 part (get_or part (length part - 1) 0)))

-- The own refusals of read and repair are 4 to 29. Assumes nothing.
use Rattle.std.proofs.Common.{Ok, Err}
use Prim.Native.Nat.{ℕ, ◌+◌, ◌-◌}
use mathlib.Core.List.{List}
use mathlib.Core.Path.{refl}
use lib.Dec.{lit≤, ltb}
use lib.ListN.{drop, length}
use Rattle.text.specs.Refusals.{Told}
use Rattle.rows.specs.Rows.{room_of, entries_of}
use Rattle.rows.specs.declared.Entry.{Entry}
use Rattle.reading.specs.Readings.{Reading, complete, broken, entry, read_from, counted}
use Rattle.tokens.specs.Ron.{ron_token}
use Rattle.read.specs.Read.{reading_of, room_for, fitted}
use Rattle.repair.specs.Repair.{repair_fits, new_end, kept_of, seek_of, joins, scan_of, resume_at, found_of, answer_by, repair_answer_of}
use Rattle.given.specs.Given.{Inner, within}
use Rattle.given.proofs.Both.{both}
use Rattle.given.proofs.Front.{Own-told, higher_told, inner_own}
use Rattle.given.proofs.Readings.{Inner-reading, reading_inner, counted_inner}
use Rattle.given.proofs.Tokens.{ron_inner}

-- a reading of a text from a place on
pub read-from : (text : List ℕ) (at : ℕ) → Inner-reading (read_from ron_token text at)
read-from text at = reading_inner ron_token ron_inner at (drop at text)

-- ---- read

room-for : (room : ℕ) (a : Told ℕ) → Own-told a → Own-told (room_for room a)
unfolding within
room-for room (Ok n) h = both Own-told (ltb room n) refl tt
room-for room (Err r) h = h

pub fitted_own : (room : ℕ) (text : List ℕ) → Own-told (fitted room (reading_of text))
fitted_own room text =
    let a = counted 0 (reading_of text) in
    room-for room a (higher_told 21 29 a (lit≤ tt) (counted_inner 0 (reading_of text) (read-from text 0)))

-- ---- repair

abbrev Inner-scan : Told (ℕ × ℕ) → Type 0
Inner-scan (Ok (m, i)) = Unit
Inner-scan (Err r) = Inner r

scan : (old : List Entry) (b e n : ℕ) (r : Reading) → Inner-reading r → Inner-scan (scan_of old b e n r)
unfolding scan_of
scan old b e n complete h = tt
scan old b e n (broken r) h = h
scan old b e n (entry x r) h = both Inner-scan (joins old b e x.gap x.start (seek_of old b e x.start)) tt (scan old b e (n + 1) r h)

answer-by : (room count j : ℕ) (a : Told (ℕ × ℕ)) → Inner-scan a → Own-told (answer_by room count j a)
unfolding within
answer-by room count j (Err r) h = inner_own r h
answer-by room count j (Ok (m, i)) h = both Own-told (ltb room (j + m + (count - i))) refl tt

pub repaired_own : (tape : List ℕ) (count o a b : ℕ) (text : List ℕ) → Own-told (repair_answer_of tape count o a b text)
unfolding repair_answer_of within
repaired_own tape count o a b text =
    let old : List Entry = entries_of count tape in
    let j = kept_of old a text in
    let e = new_end o b (length text) in
    both Own-told (repair_fits tape count o a b (length text))
    (answer-by (room_of (length tape)) count j (found_of old j b e text) (scan old b e 0 (read_from ron_token text (resume_at old j)) (read-from text (resume_at old j)))) refl

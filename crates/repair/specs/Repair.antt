-- Repair (document 01): "the tape of an old text, its entry count, the old length, a cut from a to b, the new text." It is told here step by step over the
-- entries of any tape in order; that these steps come to a fresh reading, where the tape is the old text's, is a theorem. "23: unless a ≤ b ≤ old length, new
-- length + b ≥ old length + a, the count fits the slice, .." and the tape is in order. "Accepted, the slice holds the new entries, zeros up to the old
-- count, and beyond it what stood there." Throughout, o is the old length, n the new one, and e the end of the new bytes.
use Rattle.std.specs.Prelude.{Ok, Err, ℕ, suc, ◌+◌, ◌-◌, ◌*◌, Bool, cond, ◌&&◌, List, [], ◌∷◌, ◌++◌, map, ltb, leb, eqb, length, take, drop, get_or, replicate}
use Rattle.text.specs.Refusals.{Told, no_room, not_in_order}
use Rattle.text.specs.Judged.{judged_of, behind_judged}
use Rattle.rows.specs.Rows.{width, room_of, entries_of, laid}
use Rattle.rows.specs.Order.{in_order}
use Rattle.rows.specs.declared.Entry.{Entry}
use Rattle.reading.specs.Owed.{quiet_byte}
use Rattle.reading.specs.Kept.{last_quiet}
use Rattle.reading.specs.Readings.{Reading, complete, broken, entry, read_from, entries, end_of}
use Rattle.tokens.specs.Ron.{ron_token}
use Rattle.repair.specs.declared.repairer.Repaired.{Repaired}

-- ---- 23

-- The cut and the lengths agree.
unfoldable pub cut_fits : ℕ → ℕ → ℕ → ℕ → Bool
cut_fits o a b n = leb a b && (leb b o && leb (o + a) (n + b))

-- So do the count and the slice, and the tape is in order.
unfoldable pub repair_fits : List ℕ → ℕ → ℕ → ℕ → ℕ → ℕ → Bool
repair_fits tape count o a b n = cut_fits o a b n && (leb count (room_of (length tape)) && in_order (entries_of count tape) o)

-- Where the new bytes end: as far from the new text's end as the cut from the old one's.
abbrev pub new_end : ℕ → ℕ → ℕ → ℕ
new_end o b n = n - (o - b)

-- ---- kept before

-- How many entries meet a test, from the first on.
unfoldable pub leading : (Entry → Bool) → List Entry → ℕ
leading p [] = 0
leading p (x ∷ xs) = let rest = leading p xs in cond (p x) (suc rest) 0

-- The entry ends before the place q.
abbrev pub ends_before : ℕ → Entry → Bool
ends_before q x = ltb x.end q

-- The old entries that end before the last quiet byte in front of a does.
abbrev pub kept_of : List Entry → ℕ → List ℕ → ℕ
kept_of old a text = leading (ends_before (last_quiet quiet_byte (take a text))) old

-- ---- where the new reading joins the old entries

-- The old entry y, moved from b to e, starts before the place x; told without a difference, which would be cut off at 0.
abbrev pub moved_before : ℕ → ℕ → ℕ → Entry → Bool
moved_before b e x y = ltb (y.start + e) (x + b)

-- It starts at the place x.
abbrev pub moved_at : ℕ → ℕ → ℕ → Entry → Bool
moved_at b e x y = eqb (y.start + e) (x + b)

-- The number of the first old entry that, moved, does not start before x.
abbrev pub seek_of : List Entry → ℕ → ℕ → ℕ → ℕ
seek_of old b e x = leading (moved_before b e x) old

-- No entry.
abbrev pub no_entry : Entry
no_entry = record { kind = 0; start = 0; end = 0; detail = 0; gap = 0 }

-- A new entry that starts at x, at e or behind it, behind a gap of g bytes, starts where the old entry k, moved, does, and behind the same gap.
unfoldable pub joins : List Entry → ℕ → ℕ → ℕ → ℕ → ℕ → Bool
joins old b e g x k = let y = get_or old k no_entry in leb e x && (ltb k (length old) && (moved_at b e x y && eqb y.gap g))

-- The new reading behind n entries, up to the first entry that joins: how many stand before it, and the old entry's number, which is the count where none
-- joins.
unfoldable pub scan_of : List Entry → ℕ → ℕ → ℕ → Reading → Told (ℕ × ℕ)
scan_of old b e n complete = Ok (n, length old)
scan_of old b e n (broken r) = Err r
scan_of old b e n (entry x r) = let k = seek_of old b e x.start in let on = scan_of old b e (n + 1) r in cond (joins old b e x.gap x.start k) (Ok (n, k)) on

-- ---- the answer

-- The place behind the first j entries, where the new reading goes on.
abbrev pub resume_at : List Entry → ℕ → ℕ
resume_at old j = end_of 0 (take j old)

-- What is found in the new text behind the first j old entries.
abbrev pub found_of : List Entry → ℕ → ℕ → ℕ → List ℕ → Told (ℕ × ℕ)
found_of old j b e text = scan_of old b e 0 (read_from ron_token text (resume_at old j))

-- j entries kept, m new ones, and of the old ones those from i on: 22 where there is no room for them.
abbrev pub answer_by : ℕ → ℕ → ℕ → Told (ℕ × ℕ) → Told Repaired
answer_by room count j (Err r) = Err r
answer_by room count j (Ok (m, i)) = let total = j + m + (count - i) in cond (ltb room total) (Err no_room) (Ok (record { count = total; before = j; behind = count - i }))

-- What a repair of a text that was judged already answers.
unfoldable pub repair_answer_of : List ℕ → ℕ → ℕ → ℕ → ℕ → List ℕ → Told Repaired
repair_answer_of tape count o a b text =
    let old = entries_of count tape in
    let j = kept_of old a text in
    let given = answer_by (room_of (length tape)) count j (found_of old j b (new_end o b (length text)) text) in
    cond (repair_fits tape count o a b (length text)) given (Err not_in_order)

-- ---- the tape

-- An entry moved from b to e.
abbrev pub moved_from : ℕ → ℕ → Entry → Entry
moved_from b e y = record { kind = y.kind; start = y.start + e - b; end = y.end + e - b; detail = y.detail; gap = y.gap }

-- The tape with zeros in its first rows.
unfoldable pub cleared : ℕ → List ℕ → List ℕ
cleared count tape = replicate (width * count) 0 ++ drop (width * count) tape

-- The new entries: j kept, m read, and the old ones from i on, moved.
abbrev pub entries_by : List Entry → ℕ → ℕ → ℕ → ℕ → ℕ → List ℕ → List Entry
entries_by old j m i b e text = take j old ++ (take m (entries (read_from ron_token text (resume_at old j))) ++ map (moved_from b e) (drop i old))

-- The tape behind an answer.
abbrev pub tape_by : Told Repaired → Told (ℕ × ℕ) → List ℕ → ℕ → ℕ → ℕ → ℕ → List ℕ → List ℕ
tape_by (Err r) s tape count j b e text = tape
tape_by (Ok r) (Err d) tape count j b e text = tape
tape_by (Ok r) (Ok (m, i)) tape count j b e text = laid (entries_by (entries_of count tape) j m i b e text) (cleared count tape)

-- The tape after a repair.
unfoldable pub repair_tape_of : List ℕ → ℕ → ℕ → ℕ → ℕ → List ℕ → List ℕ
repair_tape_of tape count o a b text =
    let old = entries_of count tape in
    let j = kept_of old a text in
    let e = new_end o b (length text) in
    tape_by (repair_answer_of tape count o a b text) (found_of old j b e text) tape count j b e text

-- ---- the call

-- What a repair answers: 1 and 2 first.
unfoldable pub repair_of : List ℕ → ℕ → ℕ → ℕ → ℕ → List ℕ → Told Repaired
repair_of tape count o a b text = behind_judged (judged_of text) (repair_answer_of tape count o a b text)

-- A tape stays as it was where the text is refused.
abbrev pub unless_refused : Told Unit → List ℕ → List ℕ → List ℕ
unless_refused (Ok tt) tape after = after
unless_refused (Err r) tape after = tape

-- What the tape holds behind a repair.
unfoldable pub repaired_tape : List ℕ → ℕ → ℕ → ℕ → ℕ → List ℕ → List ℕ
repaired_tape tape count o a b text = unless_refused (judged_of text) tape (repair_tape_of tape count o a b text)

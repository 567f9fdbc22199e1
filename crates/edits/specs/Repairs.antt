-- `P COUNT OLDLEN A B HEX N,N,..` and `p A B NEWHEX HEX`: a tape repaired after an edit.
use Rattle.std.specs.Prelude.{Ok, Err, ℕ, ◌+◌, ◌*◌, max, min, cond, ◌&&◌, List, ◌++◌, leb, length, take, drop, Option, Some, None}
use Rattle.text.specs.Words.{starts_with}
use Rattle.lent.specs.Marks.{mark_at, marked, kept_from}
use Rattle.lines.specs.Ascii.{ascii}
use Rattle.lines.specs.Over.{over}
use Rattle.read.specs.Read.{read_answer, read_tape}
use Rattle.repair.specs.Repair.{repair_of, repaired_tape}
use Rattle.repair.specs.declared.repairer.Repaired.{Repaired}
use Rattle.rows.specs.Rows.{width}
use Rattle.show.specs.Answers.{bad_text, clean_text, refused_text}
use Rattle.show.specs.Readings.{tape_text}
use Rattle.show.specs.Repairs.{counts_text, numbers_text}
use Rattle.text.specs.Refusals.{Told}
use Rattle.words.specs.Hex.{pairs}
use Rattle.words.specs.Number.{decimal_of}
use Rattle.words.specs.Numbers.{numbers_of}
use Rattle.words.specs.Said.{by_number, by_bytes, by_numbers}
use Rattle.words.specs.Split.{first_word, behind_word}
use Rattle.edits.specs.declared.cuts.Cut.{Cut}

-- The tape's count, the old length, and the cut's ends.
abbrev pub cut_of : ℕ → ℕ → ℕ → ℕ → Cut
cut_of count old a b = record { count = count; old = old; a = a; b = b }

-- What the repair of a tape for a cut and a new text answers.
unfoldable pub told_of : List ℕ → Cut → List ℕ → Told Repaired
told_of tape q text = repair_of tape q.count q.old q.a q.b text

-- The tape after it.
unfoldable pub tape_after : List ℕ → Cut → List ℕ → List ℕ
tape_after tape q text = repaired_tape tape q.count q.old q.a q.b text

-- ---- any tape

-- Accepted, every number of the slice; a refused repair may change none, which is told by a copy set aside before it.
abbrev pub any_text : Told Repaired → List ℕ → List ℕ → List ℕ
any_text (Ok r) left aside = counts_text r.count r.before r.behind ++ numbers_text left
any_text (Err r) left aside = refused_text r ++ clean_text (starts_with left aside)

-- What is said of a tape with other numbers behind it, and all these and the copy afterwards.
unfoldable pub repair_in : List ℕ → Cut → List ℕ → List ℕ → List ℕ → List ℕ × List ℕ × List ℕ
repair_in text q tape rest aside =
    let left = tape_after tape q text in
    let copy = over tape aside in
    (any_text (told_of tape q text) left copy, left ++ rest, copy)

-- What the first four words of `P` say.
unfoldable pub front_of : List ℕ → Option Cut
front_of words =
    let two = behind_word words in
    let three = behind_word two in
    by_number (decimal_of (first_word words)) None (λ count.
    by_number (decimal_of (first_word two)) None (λ old.
    by_number (decimal_of (first_word three)) None (λ a.
    by_number (decimal_of (first_word (behind_word three))) None (λ b. Some (cut_of count old a b)))))

-- What goes on with them, or what is said of a line that is no case.
abbrev pub by_said : {A : Type 0} → Option Cut → A → (Cut → A) → A
by_said (Some q) bad own = own q
by_said None bad own = bad

-- `P COUNT OLDLEN A B HEX N,N,..`: any tape, as many numbers as the line has. What is said, and the rooms for the text, the tape and the copy afterwards.
unfoldable pub any_line : List ℕ → List ℕ → List ℕ → List ℕ → List ℕ × List ℕ × List ℕ × List ℕ
any_line words text tape aside =
    let five = behind_word (behind_word (behind_word (behind_word words))) in
    let six = behind_word five in
    by_said (front_of words) (bad_text, text, tape, aside) (λ q.
    let left = over (pairs (first_word five)) text in
    by_bytes (first_word five) (length text) (bad_text, left, tape, aside) (λ s.
    let stored = over (numbers_of six) tape in
    by_numbers six (length tape) (bad_text, left, stored, aside) (λ t.
    let repair = repair_in s q t (drop (length t) stored) aside in
    (repair.0, left, repair.1, repair.2))))

-- ---- the last text read

-- How many numbers an accepted repair may change: the rows of the longer tape.
unfoldable pub changed_of : ℕ → ℕ → ℕ
changed_of n count = cond (leb (max n count) 65536) (width * max n count) 0

-- Accepted, the entries, and whether all behind them and the old ones kept its marks; a refused repair may change no number.
abbrev pub edit_text : Told Repaired → ℕ → List ℕ → List ℕ → List ℕ
edit_text (Ok r) count left aside =
    let changed = changed_of r.count count in
    counts_text r.count r.before r.behind ++ tape_text 59 left r.count ++ clean_text (kept_from mark_at (drop changed left) changed)
edit_text (Err r) count left aside = refused_text r ++ clean_text (starts_with left aside)

-- A tape repaired for a cut and a new text: what is said, the tape and the copy.
unfoldable pub repair_with : Cut → List ℕ → List ℕ → List ℕ → List ℕ × List ℕ × List ℕ
repair_with q new tape aside =
    let left = tape_after tape q new in
    let copy = over tape aside in
    (edit_text (told_of tape q new) q.count left copy, left, copy)

-- The same of the tape of an old text, where it was read.
abbrev pub by_read : Told ℕ → List ℕ → List ℕ → ℕ → ℕ → List ℕ → List ℕ → List ℕ × List ℕ × List ℕ
by_read (Ok count) old new a b tape aside = repair_with (cut_of count (length old) a b) new tape aside
by_read (Err r) old new a b tape aside = (ascii "old " ++ refused_text r, tape, aside)

-- The old text read into a marked tape, and this repaired.
unfoldable pub read_repair : List ℕ → List ℕ → ℕ → ℕ → List ℕ → List ℕ → List ℕ × List ℕ × List ℕ
read_repair old new a b tape aside =
    let marks = marked mark_at (length tape) 0 tape in
    by_read (read_answer old (length marks)) old new a b (read_tape old marks) aside

-- As many numbers as either text can fill, and a few behind them.
unfoldable pub room_for : ℕ → ℕ → ℕ
room_for n m = width * min (max n m) 65536 + 16

-- The same with so many numbers, or all that are there.
unfoldable pub edit_in : List ℕ → List ℕ → ℕ → ℕ → List ℕ → List ℕ → List ℕ × List ℕ × List ℕ
edit_in old new a b tape aside =
    let room = room_for (length old) (length new) in
    let edit = read_repair old new a b (take room tape) aside in
    (edit.0, edit.1 ++ drop room tape, edit.2)

-- The old text with its bytes from a to b replaced.
abbrev pub replaced : ℕ → ℕ → List ℕ → List ℕ → List ℕ
replaced a b bytes old = take a old ++ bytes ++ drop b old

-- Behind the old text, the text that the edit makes of it.
abbrev pub both_texts : ℕ → ℕ → List ℕ → List ℕ → List ℕ
both_texts a b bytes old = old ++ replaced a b bytes old

-- A word with the new bytes, the old text at the front of the room: they are put where the new text has them, and both texts have to find room.
unfoldable pub cut_line : List ℕ → ℕ → ℕ → List ℕ → List ℕ → List ℕ → List ℕ → List ℕ × List ℕ × List ℕ × List ℕ
cut_line word a b old text tape aside =
    let first = length old + a in
    let room = take first text ++ over (pairs word) (drop first text) in
    cond (leb a b && leb b (length old) && leb first (length text))
    (by_bytes word (length (drop first text)) (bad_text, room, tape, aside) (λ bytes.
    let edit = edit_in old (replaced a b bytes old) a b tape aside in
    cond (leb (length (both_texts a b bytes old)) (length text))
    (edit.0, over (both_texts a b bytes old) room, edit.1, edit.2) (bad_text, room, tape, aside)))
    (bad_text, text, tape, aside)

-- What the first two words of `p` say.
unfoldable pub ends_of : List ℕ → Option (ℕ × ℕ)
ends_of words =
    by_number (decimal_of (first_word words)) None (λ a.
    by_number (decimal_of (first_word (behind_word words))) None (λ b. Some (a, b)))

-- What goes on with them, or what is said of a line that is no case.
abbrev pub by_ends : {A : Type 0} → Option (ℕ × ℕ) → A → (ℕ → ℕ → A) → A
by_ends (Some e) bad own = own e.0 e.1
by_ends None bad own = bad

-- `p A B NEWHEX HEX`: what is said, and the rooms for the texts, the tape and the copy afterwards.
unfoldable pub text_line : List ℕ → List ℕ → List ℕ → List ℕ → List ℕ × List ℕ × List ℕ × List ℕ
text_line words text tape aside =
    let three = behind_word (behind_word words) in
    by_ends (ends_of words) (bad_text, text, tape, aside) (λ a b.
    let left = over (pairs (behind_word three)) text in
    by_bytes (behind_word three) (length text) (bad_text, left, tape, aside) (λ old. cut_line (first_word three) a b old left tape aside))

-- `r HEX` and `R NUMBERS HEX`: a text read into a marked tape.
use Rattle.std.specs.Prelude.{Ok, Err, ℕ, ◌+◌, ◌*◌, min, cond, List, ◌++◌, leb, length, take, drop}
use Rattle.lent.specs.Marks.{mark_at, marked, kept_from}
use Rattle.lines.specs.Over.{over}
use Rattle.read.specs.Read.{read_answer, read_tape}
use Rattle.rows.specs.Rows.{width}
use Rattle.show.specs.Answers.{answer_text, bad_text, clean_text}
use Rattle.show.specs.Readings.{read_text}
use Rattle.text.specs.Refusals.{Told}
use Rattle.words.specs.Hex.{pairs}
use Rattle.words.specs.Number.{decimal_of}
use Rattle.words.specs.Said.{by_number, by_bytes}
use Rattle.words.specs.Split.{first_word, behind_word}

-- How many numbers a read may change.
unfoldable pub written_of : Told ℕ → ℕ
written_of (Ok n) = cond (leb n 65536) (width * n) 0
written_of (Err r) = 0

-- The tape behind a read: marked before it.
unfoldable pub tape_after : List ℕ → List ℕ → List ℕ
tape_after text tape = read_tape text (marked mark_at (length tape) 0 tape)

-- The answer, and whether the read left all marks behind what it says.
unfoldable pub reads_text : List ℕ → List ℕ → List ℕ
reads_text text tape =
    let told = read_answer text (length tape) in
    let left = tape_after text tape in
    answer_text (read_text 59 left) told ++ clean_text (kept_from mark_at (drop (written_of told) left) (written_of told))

-- What is said with a tape of so many numbers, or all that are there, and all afterwards.
unfoldable pub read_in : List ℕ → ℕ → List ℕ → List ℕ × List ℕ
read_in text room tape = (reads_text text (take room tape), tape_after text (take room tape) ++ drop room tape)

-- As many numbers as a text can fill, and a few behind them.
unfoldable pub room_for : ℕ → ℕ
room_for bytes = width * min bytes 65536 + 16

-- `r HEX`: room enough. What is said, and the rooms for the text and the tape afterwards.
unfoldable pub read_line : List ℕ → List ℕ → List ℕ → List ℕ × List ℕ × List ℕ
read_line words text tape =
    let left = over (pairs words) text in
    by_bytes words (length text) (bad_text, left, tape) (λ s.
    let read = read_in s (room_for (length s)) tape in
    (read.0, left, read.1))

-- `R NUMBERS HEX`: a tape of so many numbers.
unfoldable pub any_line : List ℕ → List ℕ → List ℕ → List ℕ × List ℕ × List ℕ
any_line words text tape =
    let two = behind_word words in
    by_number (decimal_of (first_word words)) (bad_text, text, tape) (λ numbers.
    let left = over (pairs two) text in
    by_bytes two (length text) (bad_text, left, tape) (λ s.
    let read = read_in s numbers tape in
    (read.0, left, read.1)))

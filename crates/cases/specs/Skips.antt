-- `s CURSOR PRE LEN HEX`: a skip.
use Rattle.std.specs.Prelude.{ℕ, cond, List, length, Option, Some}
use Rattle.cursor.specs.Cursor.{cursor, unclosed_line}
use Rattle.lines.specs.Ascii.{ascii}
use Rattle.lines.specs.Over.{over}
use Rattle.sarridok.specs.Skip.{skip_of}
use Rattle.show.specs.Answers.{answer_text, bad_text}
use Rattle.show.specs.Skips.{moved_text}
use Rattle.words.specs.Hex.{pairs}
use Rattle.words.specs.Number.{decimal_of}
use Rattle.words.specs.Said.{by_number, by_bytes}
use Rattle.words.specs.Split.{first_word, behind_word}
use Rattle.cases.specs.Bytes.{same_bytes}

-- A number, or the word `mark` for that of a line that is not closed.
unfoldable pub length_of : List ℕ → Option ℕ
length_of word = cond (same_bytes word (ascii "mark")) (Some unclosed_line) (decimal_of word)

-- What is said, and the room for the text afterwards.
unfoldable pub skip_line : List ℕ → List ℕ → List ℕ × List ℕ
skip_line words text =
    let two = behind_word words in
    let three = behind_word two in
    let four = behind_word three in
    by_number (decimal_of (first_word words)) (bad_text, text) (λ at.
    by_number (decimal_of (first_word two)) (bad_text, text) (λ pre.
    by_number (length_of (first_word three)) (bad_text, text) (λ len.
    (by_bytes four (length text) bad_text (λ s. answer_text moved_text (skip_of s (cursor at pre len))), over (pairs four) text))))

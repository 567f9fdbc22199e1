-- `c KIND START HEX` and `C ENTRY COUNT BUFFER HEX N,N,..`: contents and decoded of an entry, the view and then the decoding into a marked buffer.
use Rattle.std.specs.Prelude.{Ok, Err, ℕ, ◌+◌, ◌-◌, ◌^◌, min, List, [], ◌∷◌, ◌++◌, length, take, drop, Option, Some, None}
use Rattle.lent.specs.Marks.{byte_mark_at, marked, kept_from}
use Rattle.lines.specs.Ascii.{ascii}
use Rattle.lines.specs.Over.{over}
use Rattle.sarridok.specs.Contents.{contents_of, decoded_answer, decoded_out}
use Rattle.show.specs.Answers.{answer_text, bad_text, clean_text}
use Rattle.show.specs.Contents.{span_text, wrote_text}
use Rattle.text.specs.Refusals.{Told}
use Rattle.words.specs.Hex.{pairs}
use Rattle.words.specs.Number.{decimal_of}
use Rattle.words.specs.Numbers.{numbers_of}
use Rattle.words.specs.Said.{by_number, by_small, by_bytes, by_numbers}
use Rattle.words.specs.Small.{small_of}
use Rattle.words.specs.Split.{first_word, behind_word}
use Rattle.cases.specs.declared.contents.Asked.{Asked}

-- An entry, the tape's count, and how many bytes the buffer has.
abbrev pub asked : ℕ → ℕ → ℕ → Asked
asked entry count buffer = record { entry = entry; count = count; buffer = buffer }

-- How many bytes a decoding may change.
abbrev pub wrote_of : Told ℕ → ℕ
wrote_of (Ok n) = n
wrote_of (Err r) = 0

-- The buffer behind a decoding: marked before it.
unfoldable pub buffer_after : List ℕ → List ℕ → Asked → List ℕ → List ℕ
buffer_after text tape q buffer = decoded_out text tape q.count q.entry (marked byte_mark_at (length buffer) 0 buffer)

-- What the first call says, before the bar.
unfoldable pub view_text : List ℕ → List ℕ → Asked → List ℕ
view_text text tape q = answer_text span_text (contents_of text tape q.count q.entry) ++ ascii " | "

-- What a decoding says, and whether it left all marks behind what it wrote.
unfoldable pub decoding_text : List ℕ → Told ℕ → List ℕ
decoding_text left told = answer_text (wrote_text left) told ++ clean_text (kept_from byte_mark_at (drop (wrote_of told) left) (wrote_of told))

-- Both answers.
unfoldable pub both_text : List ℕ → List ℕ → Asked → List ℕ → List ℕ
both_text text tape q buffer =
    view_text text tape q ++ decoding_text (buffer_after text tape q buffer) (decoded_answer text tape q.count q.entry (length buffer))

-- As many bytes as a text can fill, and a few behind them.
unfoldable pub most_for : ℕ → ℕ
most_for text = min text 65536 + 16

-- A buffer of so many bytes, but no more than that.
unfoldable pub room_for : ℕ → ℕ → ℕ
room_for buffer text = min buffer (most_for text)

-- What is said with a buffer lent from the spare bytes, and these afterwards.
unfoldable pub contents_in : List ℕ → List ℕ → Asked → List ℕ → List ℕ × List ℕ
contents_in text tape q spare =
    let n = room_for q.buffer (length text) in
    (both_text text tape q (take n spare), buffer_after text tape q (take n spare) ++ drop n spare)

-- `c KIND START HEX`: the one entry of a tape, with room enough. What is said, and the rooms for the text and the buffer afterwards.
unfoldable pub contents_line : List ℕ → List ℕ → List ℕ → List ℕ × List ℕ × List ℕ
contents_line words text spare =
    let two = behind_word words in
    let three = behind_word two in
    by_small (small_of (first_word words)) (bad_text, text, spare) (λ kind.
    by_small (small_of (first_word two)) (bad_text, text, spare) (λ start.
    let left = over (pairs three) text in
    by_bytes three (length text) (bad_text, left, spare) (λ s.
    let both = contents_in s (kind ∷ start ∷ 0 ∷ 0 ∷ 0 ∷ []) (asked 0 1 (2 ^ 64 - 1)) spare in
    (both.0, left, both.1))))

-- What the first three words of `C` say.
unfoldable pub front_of : List ℕ → Option Asked
front_of words =
    let two = behind_word words in
    by_number (decimal_of (first_word words)) None (λ entry.
    by_number (decimal_of (first_word two)) None (λ count.
    by_number (decimal_of (first_word (behind_word two))) None (λ buffer. Some (asked entry count buffer))))

-- What goes on with them, or what is said of a line that is no case.
abbrev pub by_said : {A : Type 0} → Option Asked → A → (Asked → A) → A
by_said (Some q) bad own = own q
by_said None bad own = bad

-- `C ENTRY COUNT BUFFER HEX N,N,..`: any tape. What is said, and the rooms for the text, the tape and the buffer afterwards.
unfoldable pub any_line : List ℕ → List ℕ → List ℕ → List ℕ → List ℕ × List ℕ × List ℕ × List ℕ
any_line words text tape spare =
    let four = behind_word (behind_word (behind_word words)) in
    let five = behind_word four in
    by_said (front_of words) (bad_text, text, tape, spare) (λ q.
    let left = over (pairs (first_word four)) text in
    by_bytes (first_word four) (length text) (bad_text, left, tape, spare) (λ s.
    let stored = over (numbers_of five) tape in
    by_numbers five (length tape) (bad_text, left, stored, spare) (λ t.
    let both = contents_in s t q spare in
    (both.0, left, stored, both.1))))

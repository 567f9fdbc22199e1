-- `q CUTS HEX`: a text that arrives in pieces of these lengths, the rest last, and then its end; one answer for each, ` | ` between.
use Rattle.std.specs.Prelude.{ℕ, ◌+◌, cond, List, [], ◌∷◌, ◌++◌, leb, length, take, drop}
use Rattle.lines.specs.Ascii.{ascii}
use Rattle.pieces.specs.Ends.{finish_of}
use Rattle.pieces.specs.Pieces.{begun, piece_of}
use Rattle.pieces.specs.declared.state.Arrival.{Arrival}
use Rattle.rows.specs.Rows.{room_of}
use Rattle.show.specs.Answers.{bad_text}
use Rattle.words.specs.Said.{by_bytes, by_numbers}
use Rattle.words.specs.Split.{first_word, behind_word}
use Rattle.arrivals.specs.Arrives.{piece_text, end_text, next_of, kept_behind}

-- How many bytes pieces of these lengths have.
unfoldable pub sum_of : List ℕ → ℕ
sum_of [] = 0
sum_of (n ∷ ns) = n + sum_of ns

-- The pieces of these lengths, and the rest.
unfoldable pub pieces_of : List ℕ → List ℕ → List (List ℕ)
pieces_of [] s = s ∷ []
pieces_of (n ∷ ns) s = take n s ∷ pieces_of ns (drop n s)

-- The answers of pieces, each over the state and the kept bytes that the former left, and of the end.
unfoldable pub answers_from : List (List ℕ) → Arrival → List ℕ → ℕ → List ℕ
answers_from [] a kept room = end_text (finish_of a kept room)
answers_from (w ∷ ws) a kept room =
    let told = piece_of a (kept ++ w) (length w) room in
    piece_text told ++ ascii " | " ++ answers_from ws (next_of a told) (kept_behind a told (kept ++ w)) room

-- `q CUTS HEX`, with so much space for bytes, so many numbers for the tape and so many for the lengths.
unfoldable pub text_line : List ℕ → ℕ → ℕ → ℕ → List ℕ
text_line words space numbers lengths =
    by_numbers (first_word words) lengths bad_text (λ cuts.
    by_bytes (behind_word words) space bad_text (λ s.
    cond (leb (sum_of cuts) (length s)) (answers_from (pieces_of cuts s) begun [] (room_of numbers)) bad_text))

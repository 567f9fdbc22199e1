-- `i WIDTH PLACE HEX`: a typed integer.
use Rattle.std.specs.Prelude.{ℕ, cond, List, eqb, length, Option, Some, None}
use Rattle.integers.specs.declared.width.Width.{Width}
use Rattle.integers.specs.declared.width.Width.TheVariants.{I8, I16, I32, I64, U8, U16, U32, U64}
use Rattle.lines.specs.Over.{over}
use Rattle.sarridok.specs.Typed.{integer_of}
use Rattle.show.specs.Answers.{answer_text, bad_text}
use Rattle.show.specs.Integers.{typed_text}
use Rattle.words.specs.Hex.{pairs}
use Rattle.words.specs.Number.{decimal_of}
use Rattle.words.specs.Said.{by_number, by_bytes}
use Rattle.words.specs.Split.{first_word, behind_word}
use Rattle.cases.specs.declared.i.Asked.{Asked}

-- The widths are numbered as on a tape.
unfoldable pub width_of : ℕ → Option Width
width_of n =
    cond (eqb n 1) (Some I8) (cond (eqb n 2) (Some I16) (cond (eqb n 3) (Some I32) (cond (eqb n 4) (Some I64)
    (cond (eqb n 5) (Some U8) (cond (eqb n 6) (Some U16) (cond (eqb n 7) (Some U32) (cond (eqb n 8) (Some U64) None)))))))

-- A width at a place.
abbrev pub at_place : Option Width → ℕ → Option Asked
at_place (Some width) place = Some (record { width = width; place = place })
at_place None place = None

-- The width and the place that the first two words say.
unfoldable pub front_of : List ℕ → Option Asked
front_of words =
    by_number (decimal_of (first_word words)) None (λ n. by_number (decimal_of (first_word (behind_word words))) None (λ place. at_place (width_of n) place))

-- What goes on with them, or what is said of a line that is no case.
abbrev pub by_asked : {A : Type 0} → Option Asked → A → (Width → ℕ → A) → A
by_asked (Some q) bad own = own q.width q.place
by_asked None bad own = bad

-- What is said, and the room for the text afterwards.
unfoldable pub integer_line : List ℕ → List ℕ → List ℕ × List ℕ
integer_line words text =
    let three = behind_word (behind_word words) in
    by_asked (front_of words) (bad_text, text) (λ width place.
    (by_bytes three (length text) bad_text (λ s. answer_text typed_text (integer_of s place width)), over (pairs three) text))

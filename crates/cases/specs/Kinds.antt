-- `k NEWTYPE TUPLE PLACE HEX`: a struct kind.
use Rattle.std.specs.Prelude.{ℕ, cond, List, eqb, ltb, length, Option, Some, None}
use Rattle.lines.specs.Over.{over}
use Rattle.sarridok.specs.StructKind.{struct_kind_of}
use Rattle.show.specs.Answers.{answer_text, bad_text}
use Rattle.show.specs.StructKinds.{kind_text}
use Rattle.structs.specs.declared.kinds.NewtypeMode.{NewtypeMode}
use Rattle.structs.specs.declared.kinds.NewtypeMode.TheVariants.{NoParensMeanUnit, InsideNewtype}
use Rattle.structs.specs.declared.kinds.TupleMode.{TupleMode}
use Rattle.structs.specs.declared.kinds.TupleMode.TheVariants.{ImpreciseTupleOrNewtype, DifferentiateNewtype}
use Rattle.words.specs.Hex.{pairs}
use Rattle.words.specs.Number.{decimal_of}
use Rattle.words.specs.Said.{by_number, by_bytes}
use Rattle.words.specs.Split.{first_word, behind_word}
use Rattle.cases.specs.declared.k.Asked.{Asked}

-- The modes that two numbers say, in the order of the crate's enums.
unfoldable pub modes_of : ℕ → ℕ → ℕ → Option Asked
modes_of newtype tuple place =
    cond (ltb 1 newtype) None (cond (ltb 1 tuple) None
    (Some (record {
      newtype = cond (eqb newtype 0) NoParensMeanUnit InsideNewtype;
      tuple = cond (eqb tuple 0) ImpreciseTupleOrNewtype DifferentiateNewtype;
      place = place;
    })))

-- The modes and the place that the first three words say.
unfoldable pub front_of : List ℕ → Option Asked
front_of words =
    let two = behind_word words in
    by_number (decimal_of (first_word words)) None (λ newtype.
    by_number (decimal_of (first_word two)) None (λ tuple.
    by_number (decimal_of (first_word (behind_word two))) None (λ place. modes_of newtype tuple place)))

-- What goes on with them, or what is said of a line that is no case.
abbrev pub by_asked : {A : Type 0} → Option Asked → A → (NewtypeMode → TupleMode → ℕ → A) → A
by_asked (Some q) bad own = own q.newtype q.tuple q.place
by_asked None bad own = bad

-- What is said, and the room for the text afterwards.
unfoldable pub kind_line : List ℕ → List ℕ → List ℕ × List ℕ
kind_line words text =
    let four = behind_word (behind_word (behind_word words)) in
    by_asked (front_of words) (bad_text, text) (λ newtype tuple place.
    (by_bytes four (length text) bad_text (λ s. answer_text kind_text (struct_kind_of s place newtype tuple)), over (pairs four) text))

-- The line of a struct kind. Assumes nothing.
use Rattle.std.specs.Prelude.{Option, Some, None}
use Prim.Native.Nat.{ℕ}
use mathlib.Core.List.{List}
use mathlib.Core.Path.{◌≡◌, sym, ap}
use lib.ListN.{length}
use Rattle.lines.specs.Over.{over}
use Rattle.sarridok.specs.StructKind.{struct_kind_of}
use Rattle.show.specs.Answers.{answer_text, bad_text}
use Rattle.show.specs.StructKinds.{kind_text}
use Rattle.structs.specs.declared.kinds.NewtypeMode.{NewtypeMode}
use Rattle.structs.specs.declared.kinds.TupleMode.{TupleMode}
use Rattle.words.specs.Hex.{pairs}
use Rattle.words.specs.Number.{decimal_of}
use Rattle.words.specs.Said.{by_bytes}
use Rattle.words.specs.Split.{first_word, behind_word}
use Rattle.cases.specs.Kinds.{modes_of, front_of, by_asked, kind_line}
use Rattle.cases.specs.declared.k.Asked.{Asked}
use Rattle.words.proofs.DecidedLaws.{three_first, three_second, three_third, three_all}

module _ (words : List ℕ) where
  abbrev first : Option ℕ
  first = decimal_of (first_word words)

  abbrev second : Option ℕ
  second = decimal_of (first_word (behind_word words))

  abbrev third : Option ℕ
  third = decimal_of (first_word (behind_word (behind_word words)))

  pub no_newtype : first ≡ None → None ≡ front_of words
  unfolding front_of
  no_newtype e = sym (three_first first second third None modes_of e)

  pub no_tuple : (a : ℕ) → first ≡ Some a → second ≡ None → None ≡ front_of words
  unfolding front_of
  no_tuple a e f = sym (three_second first second third None modes_of a e f)

  pub no_place : (a b : ℕ) → first ≡ Some a → second ≡ Some b → third ≡ None → None ≡ front_of words
  unfolding front_of
  no_place a b e f g = sym (three_third first second third None modes_of a b e f g)

  pub modes_at : (a b n : ℕ) → first ≡ Some a → second ≡ Some b → third ≡ Some n → modes_of a b n ≡ front_of words
  unfolding front_of
  modes_at a b n e f g = sym (three_all first second third None modes_of a b n e f g)

module _ (words text : List ℕ) where
  abbrev own : NewtypeMode → TupleMode → ℕ → List ℕ × List ℕ
  own newtype tuple place = (
    by_bytes (behind_word (behind_word (behind_word words))) (length text) bad_text (λ s. answer_text kind_text (struct_kind_of s place newtype tuple)),
    over (pairs (behind_word (behind_word (behind_word words)))) text,
  )

  pub kind_bad : front_of words ≡ None → kind_line words text ≡ (bad_text, text)
  unfolding kind_line
  kind_bad e = ap (λ (a : Option Asked). by_asked a (bad_text, text) own) e

  pub kind_at : (q : Asked) → front_of words ≡ Some q → kind_line words text ≡ own q.newtype q.tuple q.place
  unfolding kind_line
  kind_at q e = ap (λ (a : Option Asked). by_asked a (bad_text, text) own) e

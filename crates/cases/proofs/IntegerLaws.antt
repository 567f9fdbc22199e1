-- The line of a typed integer. Assumes nothing.
use Rattle.std.specs.Prelude.{Option, Some, None}
use Prim.Native.Nat.{ℕ}
use mathlib.Core.List.{List}
use mathlib.Core.Path.{◌≡◌, sym, ap, ◌∙◌}
use lib.ListN.{length}
use Rattle.integers.specs.declared.width.Width.{Width}
use Rattle.lines.specs.Over.{over}
use Rattle.sarridok.specs.Typed.{integer_of}
use Rattle.show.specs.Answers.{answer_text, bad_text}
use Rattle.show.specs.Integers.{typed_text}
use Rattle.words.specs.Hex.{pairs}
use Rattle.words.specs.Number.{decimal_of}
use Rattle.words.specs.Said.{by_bytes}
use Rattle.words.specs.Split.{first_word, behind_word}
use Rattle.cases.specs.Integers.{width_of, at_place, front_of, by_asked, integer_line}
use Rattle.cases.specs.declared.i.Asked.{Asked}
use Rattle.words.proofs.DecidedLaws.{two_first, two_second, two_both}

module _ (words : List ℕ) where
  abbrev placed : ℕ → ℕ → Option Asked
  placed n place = at_place (width_of n) place

  pub no_width : decimal_of (first_word words) ≡ None → None ≡ front_of words
  unfolding front_of
  no_width e = sym (two_first (decimal_of (first_word words)) (decimal_of (first_word (behind_word words))) None placed e)

  module _ (n : ℕ) (e : decimal_of (first_word words) ≡ Some n) where
    pub no_place : decimal_of (first_word (behind_word words)) ≡ None → None ≡ front_of words
    unfolding front_of
    no_place f = sym (two_second (decimal_of (first_word words)) (decimal_of (first_word (behind_word words))) None placed n e f)

    pub width_at : (place : ℕ) (w : Option Width) → decimal_of (first_word (behind_word words)) ≡ Some place → width_of n ≡ w → at_place w place ≡ front_of words
    unfolding front_of
    width_at place w f g =
        sym (two_both (decimal_of (first_word words)) (decimal_of (first_word (behind_word words))) None placed n place e f ∙ ap (λ (x : Option Width). at_place x place) g)

module _ (words text : List ℕ) where
  abbrev own : Width → ℕ → List ℕ × List ℕ
  own width place = (
    by_bytes (behind_word (behind_word words)) (length text) bad_text (λ s. answer_text typed_text (integer_of s place width)),
    over (pairs (behind_word (behind_word words))) text,
  )

  pub integer_bad : front_of words ≡ None → integer_line words text ≡ (bad_text, text)
  unfolding integer_line
  integer_bad e = ap (λ (a : Option Asked). by_asked a (bad_text, text) own) e

  pub integer_at : (q : Asked) → front_of words ≡ Some q → integer_line words text ≡ own q.width q.place
  unfolding integer_line
  integer_at q e = ap (λ (a : Option Asked). by_asked a (bad_text, text) own) e

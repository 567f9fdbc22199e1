-- The line of a skip. Assumes nothing.
use Rattle.std.specs.Prelude.{Option, Some, None}
use Prim.Native.Nat.{ℕ}
use mathlib.Core.List.{List}
use mathlib.Core.Path.{◌≡◌}
use lib.ListN.{length}
use Rattle.cursor.specs.Cursor.{cursor}
use Rattle.lines.specs.Over.{over}
use Rattle.sarridok.specs.Skip.{skip_of}
use Rattle.show.specs.Answers.{answer_text, bad_text}
use Rattle.show.specs.Skips.{moved_text}
use Rattle.words.specs.Hex.{pairs}
use Rattle.words.specs.Number.{decimal_of}
use Rattle.words.specs.Said.{by_bytes}
use Rattle.words.specs.Split.{first_word, behind_word}
use Rattle.cases.specs.Skips.{length_of, skip_line}
use Rattle.words.proofs.DecidedLaws.{three_first, three_second, three_third, three_all}

module _ (words text : List ℕ) where
  abbrev first : Option ℕ
  first = decimal_of (first_word words)

  abbrev second : Option ℕ
  second = decimal_of (first_word (behind_word words))

  abbrev third : Option ℕ
  third = length_of (first_word (behind_word (behind_word words)))

  abbrev own : ℕ → ℕ → ℕ → List ℕ × List ℕ
  own at pre len = (
    by_bytes (behind_word (behind_word (behind_word words))) (length text) bad_text (λ s. answer_text moved_text (skip_of s (cursor at pre len))),
    over (pairs (behind_word (behind_word (behind_word words)))) text,
  )

  pub no_cursor : first ≡ None → skip_line words text ≡ (bad_text, text)
  unfolding skip_line
  no_cursor e = three_first first second third (bad_text, text) own e

  pub no_pre : (a : ℕ) → first ≡ Some a → second ≡ None → skip_line words text ≡ (bad_text, text)
  unfolding skip_line
  no_pre a e f = three_second first second third (bad_text, text) own a e f

  pub no_length : (a b : ℕ) → first ≡ Some a → second ≡ Some b → third ≡ None → skip_line words text ≡ (bad_text, text)
  unfolding skip_line
  no_length a b e f g = three_third first second third (bad_text, text) own a b e f g

  pub skip_at : (a b n : ℕ) → first ≡ Some a → second ≡ Some b → third ≡ Some n → skip_line words text ≡ own a b n
  unfolding skip_line
  skip_at a b n e f g = three_all first second third (bad_text, text) own a b n e f g

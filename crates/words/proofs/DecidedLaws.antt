-- What a line's words decide, one word after another. Assumes nothing.
use Rattle.std.specs.Prelude.{Option, Some, None}
use Prim.Native.Nat.{ℕ}
use mathlib.Core.List.{List}
use mathlib.Core.Path.{◌≡◌, sym, ap, ◌∙◌}
use Rattle.words.specs.Hex.{hex_in, pairs}
use Rattle.words.specs.Said.{by_number, by_hex, by_bytes}

-- ---- numbers

module _ {A : Type 0} (first second : Option ℕ) (bad : A) (own : ℕ → ℕ → A) where
  abbrev pub two : A
  two = by_number first bad (λ a. by_number second bad (λ b. own a b))

  pub two_first : first ≡ None → two ≡ bad
  two_first e = ap (λ (d : Option ℕ). by_number d bad (λ a. by_number second bad (λ b. own a b))) e

  two_on : (a : ℕ) → first ≡ Some a → two ≡ by_number second bad (λ b. own a b)
  two_on a e = ap (λ (d : Option ℕ). by_number d bad (λ a. by_number second bad (λ b. own a b))) e

  pub two_second : (a : ℕ) → first ≡ Some a → second ≡ None → two ≡ bad
  two_second a e f = two_on a e ∙ ap (λ (d : Option ℕ). by_number d bad (λ b. own a b)) f

  pub two_both : (a b : ℕ) → first ≡ Some a → second ≡ Some b → two ≡ own a b
  two_both a b e f = two_on a e ∙ ap (λ (d : Option ℕ). by_number d bad (λ b. own a b)) f

module _ {A : Type 0} (first second third : Option ℕ) (bad : A) (own : ℕ → ℕ → ℕ → A) where
  abbrev on_third : ℕ → ℕ → A
  on_third a b = by_number third bad (λ c. own a b c)

  abbrev pub three : A
  three = by_number first bad (λ a. by_number second bad (λ b. by_number third bad (λ c. own a b c)))

  pub three_first : first ≡ None → three ≡ bad
  three_first e = two_first first second bad on_third e

  pub three_second : (a : ℕ) → first ≡ Some a → second ≡ None → three ≡ bad
  three_second a e f = two_second first second bad on_third a e f

  pub three_third : (a b : ℕ) → first ≡ Some a → second ≡ Some b → third ≡ None → three ≡ bad
  three_third a b e f g = two_both first second bad on_third a b e f ∙ ap (λ (d : Option ℕ). by_number d bad (λ c. own a b c)) g

  pub three_all : (a b c : ℕ) → first ≡ Some a → second ≡ Some b → third ≡ Some c → three ≡ own a b c
  three_all a b c e f g = two_both first second bad on_third a b e f ∙ ap (λ (d : Option ℕ). by_number d bad (λ c. own a b c)) g

-- ---- bytes

module _ {A : Type 0} (word : List ℕ) (room : ℕ) (bad : A) (own : List ℕ → A) where
  pub bytes_bad : hex_in word room ≡ None → by_bytes word room bad own ≡ bad
  bytes_bad e = ap (λ (h : Option ℕ). by_hex h bad (own (pairs word))) e

  pub bytes_good : (n : ℕ) → hex_in word room ≡ Some n → by_bytes word room bad own ≡ own (pairs word)
  bytes_good n e = ap (λ (h : Option ℕ). by_hex h bad (own (pairs word))) e

-- what a word says, where a call said it of a slice that is this word
pub said : {D : Type 0} (of : List ℕ → D) (w word : List ℕ) (d v : D) → d ≡ of w → w ≡ word → d ≡ v → of word ≡ v
said of w word d v x e y = sym (x ∙ ap of e) ∙ y

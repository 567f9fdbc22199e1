-- The turns of the loop that puts out magnitudes and codes. Assumes nothing.
use Prim.Native.Nat.{ℕ, min, ◌+◌, ◌<◌, ◌≤◌}
use native.Mathlib.Omega.{arith}
use mathlib.Core.List.{List, [], ◌∷◌, ◌++◌}
use mathlib.Core.Path.{◌≡◌, refl, ap, ◌∙◌}
use lib.ListN.{length, get_or, drop, drop_of_length-le}
use Rattle.text.proofs.Choices.{either, lt_or_le}
use Rattle.text.proofs.Lists.{front}
use Rattle.show.specs.Many.{coded_text, codeds_text}

-- without codes there is nothing
no_codes : (between : ℕ) (ms : List ℕ) → codeds_text between ms [] ≡ []
unfolding codeds_text
no_codes between [] = refl
no_codes between (m ∷ ms) = refl

module _ (between : ℕ) (ms cs : List ℕ) (i : ℕ) where
  pub codeds_front : i < length ms → i < length cs
      → codeds_text between (drop i ms) (drop i cs) ≡ coded_text between (get_or ms i 0) (get_or cs i 0) ++ codeds_text 59 (drop (i + 1) ms) (drop (i + 1) cs)
  unfolding codeds_text
  codeds_front h k =
      ap (λ (s : List ℕ). codeds_text between s (drop i cs)) (front ms i h)
      ∙ ap (λ (s : List ℕ). codeds_text between (get_or ms i 0 ∷ drop (i + 1) ms) s) (front cs i k)

  pub codeds_over : min (length ms) (length cs) ≤ i → codeds_text between (drop i ms) (drop i cs) ≡ []
  unfolding codeds_text
  codeds_over h =
      either (lt_or_le (length ms) (length cs))
      (λ l. let n : length ms ≤ i = omega arith in ap (λ (s : List ℕ). codeds_text between s (drop i cs)) (drop_of_length-le ms n))
      (λ l. let n : length cs ≤ i = omega arith in ap (codeds_text between (drop i ms)) (drop_of_length-le cs n) ∙ no_codes between (drop i ms))

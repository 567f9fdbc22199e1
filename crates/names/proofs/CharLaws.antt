-- Laws of characters and of runs of them. Assumes nothing.
use Prim.Native.Nat.{◌+◌, ◌-◌, ◌<◌, ◌≤◌, suc, zero, ℕ}
use native.Mathlib.Nat.{le_of_suc-le-suc, not-suc-le-zero}
use native.Mathlib.Omega.{arith}
use mathlib.Core.Bool.{Bool}
use mathlib.Core.List.{List, [], ◌∷◌}
use mathlib.Core.Path.{◌∙◌, ◌≡◌, ap, refl, subst, sym}
use lib.ListN.{drop, length, length-drop, take}
use lib.Seq.{drop-drop}
use Rattle.text.proofs.AheadLaws.{char_le, char_nil}
use Rattle.text.proofs.Lists.{tail_part}
use Rattle.names.specs.Characters.{by_char_width, char_if, chars, chars_from}

module _ (p : ℕ → Bool) where
  -- ---- runs
  chars_behind : (s : List ℕ) (n : ℕ) → n ≤ length s → chars_from p s n ≡ n + chars p (drop n s)
  unfolding chars_from chars
  chars_behind [] zero h = refl
  chars_behind [] (suc n) h = absurd (not-suc-le-zero h)
  chars_behind (a ∷ s) zero h = omega arith
  chars_behind (a ∷ s) (suc n) h = let ih = chars_behind s n (le_of_suc-le-suc h) in omega arith

  pub chars_first : (s : List ℕ) (n : ℕ) → char_if p s ≡ n → 0 < n → chars p s ≡ n + chars p (drop n s)
  unfolding chars_from chars
  chars_first s zero e h = absurd (not-suc-le-zero h)
  chars_first [] (suc n) e h = absurd (not-suc-le-zero (subst (λ (k : ℕ). k ≤ 0) e (char_le p [])))
  chars_first (a ∷ s) (suc n) e h =
      let l : suc n ≤ suc (length s) = subst (λ (k : ℕ). k ≤ suc (length s)) e (char_le p (a ∷ s)) in
      let b = chars_behind s n (le_of_suc-le-suc l) in
      ap (λ (k : ℕ). by_char_width k (λ (m : ℕ). suc (chars_from p s m))) e ∙ omega arith

  pub chars_none : (s : List ℕ) → char_if p s ≡ 0 → chars p s ≡ 0
  unfolding chars_from chars
  chars_none [] e = refl
  chars_none (a ∷ s) e = ap (λ (k : ℕ). by_char_width k (λ (m : ℕ). suc (chars_from p s m))) e

  chars_from_le : (s : List ℕ) (n : ℕ) → chars_from p s n ≤ length s
  unfolding chars_from
  chars_from_le [] n = omega arith
  chars_from_le (a ∷ s) (suc n) = let h = chars_from_le s n in omega arith
  chars_from_le (a ∷ s) zero = go (char_if p (a ∷ s)) (λ m. chars_from_le s m)
    where
      go : (k : ℕ) → ((m : ℕ) → chars_from p s m ≤ length s) → by_char_width k (λ (m : ℕ). suc (chars_from p s m)) ≤ suc (length s)
      go zero f = omega arith
      go (suc k) f = omega (arith, f k)

  pub chars_le : (s : List ℕ) → chars p s ≤ length s
  unfolding chars
  chars_le s = chars_from_le s 0

  -- ---- the same from a place of the text on: what a loop goes by
  module _ (s : List ℕ) (i : ℕ) where
    pub run_on : (n : ℕ) → char_if p (drop i s) ≡ n → 0 < n → i + chars p (drop i s) ≡ i + n + chars p (drop (i + n) s)
    run_on n e h = omega (arith, chars_first (drop i s) n e h, ap (chars p) (drop-drop n i s))

    pub run_stops : char_if p (drop i s) ≡ 0 → i + chars p (drop i s) ≡ i
    run_stops e = omega (arith, chars_none (drop i s) e)

    pub run_ends : length s ≤ i → i + chars p (drop i s) ≡ i
    run_ends h = run_stops (char_nil p (drop i s) (omega (arith, length-drop i s)))

    -- what a reader of one character answers on the part from there, and that it lies within the text
    pub part_char : (n : ℕ) → n ≡ char_if p (take (length s - i) (drop i s)) → char_if p (drop i s) ≡ n
    part_char n e = ap (char_if p) (sym (tail_part s i)) ∙ sym e

    pub part_fits : (n : ℕ) → n ≡ char_if p (take (length s - i) (drop i s)) → n ≤ length s - i
    part_fits n e = omega (arith, part_char n e, char_le p (drop i s), length-drop i s)

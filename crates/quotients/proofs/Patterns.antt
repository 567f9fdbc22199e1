-- The patterns of f64 over whole numbers: a normal magnitude is q * 2 ^ k units with q from 2 ^ 52 to 2 ^ 53, and its pattern is k * 2 ^ 52 + q, at both ends too.
-- Assumes nothing.
use Prim.Native.Nat.{ℕ, zero, suc, ◌+◌, ◌-◌, ◌*◌, ◌/◌, ◌^◌, ◌≤◌, ◌<◌}
use native.Mathlib.Nat.{le_antisymm, lt_of_not-le, not-le_of_lt, lt_of_lt_of_le, le_trans, le_of_eq, mul-div_cancel, mul_assoc, mul_comm, suc-mul, pow-suc, mul-le-mul_right, mul-lt-mul_of_pos_right, eq-or-lt_of_le}
use native.Mathlib.Omega.{arith}
use mathlib.Core.Path.{◌≡◌, sym, ap, ap₂, ◌∙◌, subst}
use mathlib.Core.Logic.{◌⊎◌, inl, inr}
use lib.Pow.{pow-add, pow_pos, pow_mono, high, low}
use lib.Ieee.{size}
use lib.Ieee.Digits.{size-lt, size-le}
use Rattle.quotients.specs.Quotient.{units_in, units_of}

-- a field and digits
pub at_fields : (x t : ℕ) → t < 2 ^ 52 → units_of (x * 2 ^ 52 + t) ≡ units_in x t
unfolding units_of
at_fields x t h = ap₂ units_in (high x 52 h) (low x 52 h)

module _ (k : ℕ) where
  -- between two powers of two
  inner : (q : ℕ) → 2 ^ 52 ≤ q → q < 2 ^ 53 → units_of (k * 2 ^ 52 + q) ≡ q * 2 ^ k
  inner q l h =
      let e : k * 2 ^ 52 + q ≡ suc k * 2 ^ 52 + (q - 2 ^ 52) = omega arith in
      let f : 2 ^ 52 + (q - 2 ^ 52) ≡ q = omega arith in
      ap units_of e ∙ at_fields (suc k) (q - 2 ^ 52) (omega arith) ∙ ap (λ (n : ℕ). n * 2 ^ k) f

  -- so many above one, the units being twice as large there
  over : (t : ℕ) → t < 2 ^ 52 → units_of (k * 2 ^ 52 + (2 ^ 53 + t)) ≡ (2 ^ 53 + (t + t)) * 2 ^ k
  over t h =
      let e : k * 2 ^ 52 + (2 ^ 53 + t) ≡ suc (suc k) * 2 ^ 52 + t = omega arith in
      let f : (2 ^ 52 + t) * 2 ≡ 2 ^ 53 + (t + t) = omega arith in
      ap units_of e ∙ at_fields (suc (suc k)) t h ∙ ap (λ (n : ℕ). (2 ^ 52 + t) * n) (pow-suc 2 k ∙ mul_comm (2 ^ k) 2) ∙ sym (mul_assoc (2 ^ 52 + t) 2 (2 ^ k))
      ∙ ap (λ (n : ℕ). n * 2 ^ k) f

  pub units_at : (q : ℕ) → 2 ^ 52 ≤ q → q ≤ 2 ^ 53 → units_of (k * 2 ^ 52 + q) ≡ q * 2 ^ k
  units_at q l h = go (eq-or-lt_of_le h)
    where
      go : (q ≡ 2 ^ 53) ⊎ (q < 2 ^ 53) → units_of (k * 2 ^ 52 + q) ≡ q * 2 ^ k
      go (inl e) = subst (λ (n : ℕ). units_of (k * 2 ^ 52 + n) ≡ n * 2 ^ k) (sym e) (over 0 (omega arith))
      go (inr m) = inner q l m

  -- the neighbour above is 2 ^ k units away at least, and so is the one below but at 2 ^ 52
  pub gap_above : (q : ℕ) → 2 ^ 52 ≤ q → q ≤ 2 ^ 53 → 2 ^ k + q * 2 ^ k ≤ units_of (k * 2 ^ 52 + q + 1)
  gap_above q l h = go (eq-or-lt_of_le h)
    where
      go : (q ≡ 2 ^ 53) ⊎ (q < 2 ^ 53) → 2 ^ k + q * 2 ^ k ≤ units_of (k * 2 ^ 52 + q + 1)
      go (inl e) =
          let a : k * 2 ^ 52 + q + 1 ≡ k * 2 ^ 52 + (2 ^ 53 + 1) = omega arith in
          let b : suc q ≤ 2 ^ 53 + (1 + 1) = omega arith in
          let c = mul-le-mul_right (2 ^ k) b in
          le_trans (le_trans (omega (arith, suc-mul q (2 ^ k))) c) (le_of_eq (sym (ap units_of a ∙ over 1 (omega arith))))
      go (inr m) =
          let a : k * 2 ^ 52 + q + 1 ≡ k * 2 ^ 52 + suc q = omega arith in
          le_of_eq (omega (arith, suc-mul q (2 ^ k)) ∙ sym (ap units_of a ∙ units_at (suc q) (omega arith) m))

  pub gap_below : (q : ℕ) → 2 ^ 52 < q → q ≤ 2 ^ 53 → units_of (k * 2 ^ 52 + q - 1) + 2 ^ k ≡ q * 2 ^ k
  gap_below zero l h = absurd (omega arith)
  gap_below (suc q) l h =
      let a : k * 2 ^ 52 + suc q - 1 ≡ k * 2 ^ 52 + q = omega arith in
      let b = ap units_of a ∙ units_at q (omega arith) (omega arith) in
      omega (arith, suc-mul q (2 ^ k))

-- ---- the pattern of a magnitude

pub size_is : (a n : ℕ) → 2 ^ a ≤ n → n < 2 ^ suc a → size n ≡ suc a
size_is a n l h = le_antisymm (size-le n (suc a) h) (lt_of_not-le (λ (g : size n ≤ a). not-le_of_lt (lt_of_lt_of_le (size-lt n) (pow_mono g)) l))

-- as toBits has it
abbrev pub pattern_of : ℕ → ℕ
pattern_of n = (size n - 53) * 2 ^ 52 + n / 2 ^ (size n - 53)

at_drop : (n d : ℕ) → size n - 53 ≡ d → pattern_of n ≡ d * 2 ^ 52 + n / 2 ^ d
at_drop n d e = ap (λ (x : ℕ). x * 2 ^ 52 + n / 2 ^ x) e

pub pattern_is : (k q : ℕ) → 2 ^ 52 ≤ q → q ≤ 2 ^ 53 → pattern_of (q * 2 ^ k) ≡ k * 2 ^ 52 + q
pattern_is k q l h = go (eq-or-lt_of_le h)
  where
    go : (q ≡ 2 ^ 53) ⊎ (q < 2 ^ 53) → pattern_of (q * 2 ^ k) ≡ k * 2 ^ 52 + q
    go (inr m) =
        let lo : 2 ^ (52 + k) ≤ q * 2 ^ k = le_trans (le_of_eq (pow-add 2 52 k)) (mul-le-mul_right (2 ^ k) l) in
        let hi : q * 2 ^ k < 2 ^ suc (52 + k) = lt_of_lt_of_le (mul-lt-mul_of_pos_right m (pow_pos k)) (le_of_eq (sym (pow-add 2 53 k) ∙ ap (λ (x : ℕ). 2 ^ x) (omega arith))) in
        let z : size (q * 2 ^ k) - 53 ≡ k = omega (arith, size_is (52 + k) (q * 2 ^ k) lo hi) in
        at_drop (q * 2 ^ k) k z ∙ ap (λ (x : ℕ). k * 2 ^ 52 + x) (mul-div_cancel q (pow_pos k))
    go (inl e) =
        let v : q * 2 ^ k ≡ 2 ^ 52 * 2 ^ suc k = ap (λ (x : ℕ). x * 2 ^ k) e ∙ mul_assoc (2 ^ 52) 2 (2 ^ k) ∙ ap (λ (x : ℕ). 2 ^ 52 * x) (mul_comm 2 (2 ^ k) ∙ sym (pow-suc 2 k)) in
        let p : q * 2 ^ k ≡ 2 ^ (53 + k) = ap (λ (x : ℕ). x * 2 ^ k) e ∙ sym (pow-add 2 53 k) in
        let hi : q * 2 ^ k < 2 ^ suc (53 + k) = lt_of_lt_of_le (omega (arith, p, pow_pos (53 + k))) (le_of_eq (sym (pow-suc 2 (53 + k)))) in
        let z : size (q * 2 ^ k) - 53 ≡ suc k = omega (arith, size_is (53 + k) (q * 2 ^ k) (le_of_eq (sym p)) hi) in
        at_drop (q * 2 ^ k) (suc k) z
        ∙ ap (λ (x : ℕ). suc k * 2 ^ 52 + x) (ap (λ (x : ℕ). x / 2 ^ suc k) v ∙ mul-div_cancel (2 ^ 52) (pow_pos (suc k)))
        ∙ omega arith

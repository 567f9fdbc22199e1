-- The kit's decimal digits are ours. Assumes nothing.
use Prim.Native.Nat.{ℕ, zero, suc, ◌+◌, ◌-◌, ◌*◌, ◌/◌, ◌%◌, ◌^◌, ◌<◌, ◌≤◌}
use native.Mathlib.Nat.{pow-suc, one-le-pow}
use native.Mathlib.Omega.{arith}
use mathlib.Core.Path.{◌≡◌, refl, sym, subst}
use borrow.Author.Tests.{lt-ltb, le-ltb}
use Rattle.io.specs.Digits.{last_digits, hex_digit_ascii, IsDigitCount}
use Rattle.lines.specs.Decimal.{digits_in, decimal}

-- a digit below ten
glyph_ten : (n : ℕ) → hex_digit_ascii (n % 10) ≡ 48 + n % 10
glyph_ten n = rw (lt-ltb (n % 10) 10 (omega arith)) refl

-- the fewest digits of n, where there is room for them
digits-in : (k m n : ℕ) → IsDigitCount 10 1 n k → k ≤ m → last_digits 10 k n ≡ digits_in m n
unfolding digits_in
digits-in zero m n f h = absurd (omega (arith, f.0))
digits-in (suc k) zero n f h = absurd (omega arith)
digits-in (suc zero) (suc m) n f h = rw (lt-ltb n 10 (omega (arith, f.1)), glyph_ten n) refl
digits-in (suc (suc k)) (suc m) n f h =
    let one : 10 ^ suc k ≡ 10 ^ k * 10 = pow-suc 10 k in
    let two : 10 ^ suc (suc k) ≡ 10 ^ suc k * 10 = pow-suc 10 (suc k) in
    let some : 1 ≤ 10 ^ k = one-le-pow k 10 (omega arith) in
    let same : suc (suc k) - 1 ≡ suc k = omega arith in
    let low : 10 ^ suc k ≤ n = subst (λ (j : ℕ). 10 ^ j ≤ n) same (f.2 (omega arith)) in
    let same' : suc k - 1 ≡ k = omega arith in
    let next : IsDigitCount 10 1 (n / 10) (suc k) =
    (omega arith, omega (arith, f.1, two), λ q. subst (λ (j : ℕ). 10 ^ j ≤ n / 10) (sym same') (omega (arith, low, one))) in
    rw (le-ltb n 10 (omega (arith, low, one, some)), glyph_ten n, digits-in (suc k) m (n / 10) next (omega arith)) refl

-- a number is below the power of ten with as many zeros
below_pow : (k : ℕ) → k < 10 ^ k
below_pow zero = omega (arith, one-le-pow 0 10 (omega arith))
below_pow (suc k) = omega (arith, below_pow k, pow-suc 10 k)

few : (n k : ℕ) → IsDigitCount 10 1 n k → k ≤ n + 1
few n zero f = omega arith
few n (suc zero) f = omega arith
few n (suc (suc k)) f =
    let same : suc (suc k) - 1 ≡ suc k = omega arith in
    let low : 10 ^ suc k ≤ n = subst (λ (j : ℕ). 10 ^ j ≤ n) same (f.2 (omega arith)) in omega (arith, below_pow (suc k))

pub digits_decimal : (k n : ℕ) → IsDigitCount 10 1 n k → last_digits 10 k n ≡ decimal n
unfolding decimal
digits_decimal k n f = digits-in k (n + 1) n f (few n k f)

-- The division of CR 14: both whole numbers are cast exactly, so that the quotient is the fraction rounded once; and its half gap. Assumes nothing.
use Prim.Native.Nat.{ℕ, zero, suc, ◌+◌, ◌*◌, ◌^◌, ◌≤◌, ◌<◌}
use native.Mathlib.Nat.{le_trans, le_of_lt, lt_of_le_of_lt, lt_of_lt_of_le, mul-pos, mul-one, mul_assoc, mul_comm, mul_left_comm, mul-mul-mul_comm, pow-suc, pow-le-pow_right}
use native.Mathlib.Omega.{arith}
use mathlib.Core.Path.{◌≡◌, refl, sym, ap, ◌∙◌, subst}
use mathlib.Core.Bool.{Bool, true, false, true≢false, cond, not}
use lib.Dec.{T, lit≤, lit<, eqb, le→leb}
use borrow.Author.Tests.{ne_eqb}
use lib.IntN.{pos}
use lib.Pow.{pow-add, pow_mono, shl_lt}
use lib.Ieee.{Float, nan, inf, fin, Format, binary64, up, down, round, of_int, div, mul, neg, is_nan, in_float, to_bits}
use lib.Ieee.Fits.{up_pos, down_pos}
use lib.Ieee.Exact.{HasValue, round_exact}
use lib.Ieee.Back.{round_whole}
use lib.Ieee.Scale.{round_same}
use lib.Ieee.Positive.{first_pos, mul_at, positive_of_value}
use lib.Ieee.Order.{drop, kept}
use Rattle.quotients.specs.Quotient.{quotient_of, HalfGap}
use Rattle.quotients.proofs.Rounded.{half_gap_rounded, rounded_value, ten_pos}

-- ---- the casts are exact

-- a whole number up to 2 ^ 53
pub whole_exact : (m : ℕ) → m ≤ 2 ^ 53 → HasValue (of_int binary64 (pos m)) false m 1
unfolding of_int
whole_exact m h = round_whole binary64 false m h

ten_split : (k : ℕ) → 10 ^ k ≡ 5 ^ k * 2 ^ k
ten_split zero = refl
ten_split (suc k) =
    pow-suc 10 k ∙ ap (λ (x : ℕ). x * 10) (ten_split k) ∙ shuffle (5 ^ k) (2 ^ k) ∙ ap (λ (x : ℕ). x * (2 ^ k * 2)) (sym (pow-suc 5 k)) ∙ ap (λ (x : ℕ). 5 ^ suc k * x) (sym (pow-suc 2 k))
  where
    shuffle : (a b : ℕ) → a * b * 10 ≡ a * 5 * (b * 2)
    shuffle a b = sym (mul-mul-mul_comm a 5 b 2)

room : (k : ℕ) → k ≤ 22 → 53 + (k + 1074) ≤ 2098
room k h = omega arith

-- 10 ^ k up to 10 ^ 22: 5 ^ k has at most 52 binary digits
pub power_exact : (k : ℕ) → k ≤ 22 → HasValue (of_int binary64 (pos (10 ^ k))) false (10 ^ k) 1
unfolding of_int
power_exact k h =
    let five : 5 ^ k < 2 ^ 53 = lt_of_le_of_lt (pow-le-pow_right (lit≤ tt) h) (lit< tt) in
    round_exact binary64 false (10 ^ k) 1 (5 ^ k) (k + 1074) (lit< tt) five (lt_of_lt_of_le (shl_lt 53 (k + 1074) five) (pow_mono (room k h)))
    (ap (λ (x : ℕ). x * 2 ^ 1074) (ten_split k) ∙ mul_assoc (5 ^ k) (2 ^ k) (2 ^ 1074) ∙ ap (λ (x : ℕ). 5 ^ k * x) (sym (pow-add 2 k 1074)) ∙ sym (mul-one (5 ^ k * 2 ^ (k + 1074))))

-- ---- the division is the fraction rounded once

not_zero : (n : ℕ) → 0 < n → n ≡ 0 → ⊥
not_zero n h e = omega arith

cross : (x y a b p q : ℕ) → x * 1 ≡ a * p → y * 1 ≡ b * q → x * q * b ≡ a * (y * p)
cross x y a b p q h k =
    ap (λ (z : ℕ). z * q * b) (sym (mul-one x) ∙ h) ∙ regroup a p q b ∙ ap (λ (z : ℕ). a * (z * p)) (sym k ∙ mul-one y)
  where
    regroup : (a p q b : ℕ) → a * p * q * b ≡ a * (b * q * p)
    regroup a p q b = simp (mul_assoc, mul_comm, mul_left_comm)

pub div_at : (f : Format) (x y : Float) (a b : ℕ) → 0 < b → HasValue x false a 1 → HasValue y false b 1 → div f x y ≡ round f false a b
unfolding div
div_at f nan y a b p h k = absurd h
div_at f (inf s) y a b p h k = absurd h
div_at f (fin true m e) y a b p h k = absurd (true≢false h.0)
div_at f (fin false m e) nan a b p h k = absurd k
div_at f (fin false m e) (inf t) a b p h k = absurd k
div_at f (fin false m e) (fin true n d) a b p h k = absurd (true≢false k.0)
div_at f (fin false m e) (fin false n d) a b p h k =
    let w : 0 < n = first_pos n (up d) (first_pos (n * up d) 1 (subst (λ (z : ℕ). 0 < z) (sym k.1) (mul-pos p (down_pos d)))) in
    ap (λ (t : Bool). cond t (cond (eqb m 0) nan (inf false)) (round f false (m * up e * down d) (n * up d * down e))) (ne_eqb n 0 (not_zero n w))
    ∙ round_same f false (m * up e * down d) (n * up d * down e) a b (mul-pos (mul-pos w (up_pos d)) (down_pos e)) p (cross (m * up e) (n * up d) a b (down e) (down d) h.1 k.1)

pub rounded_once : (m k : ℕ) → m < 10 ^ 15 → k ≤ 22 → quotient_of m k ≡ round binary64 false m (10 ^ k)
unfolding quotient_of
rounded_once m k h l = div_at binary64 (of_int binary64 (pos m)) (of_int binary64 (pos (10 ^ k))) m (10 ^ k) (ten_pos k) (whole_exact m (le_trans (le_of_lt h) (lit≤ tt))) (power_exact k l)

-- ---- CR 14's bound
pub half_gap : (m k : ℕ) → m < 10 ^ 15 → k ≤ 22 → HalfGap m k (to_bits binary64 (quotient_of m k))
half_gap m k h l = subst (λ (x : Float). HalfGap m k (to_bits binary64 x)) (sym (rounded_once m k h l)) (half_gap_rounded m k h l)

-- ---- its pattern: no NaN, and a minus sets the highest bit

pub not_nan : (x : Float) (n c : ℕ) → HasValue x false n c → T (not (is_nan x))
unfolding is_nan
not_nan nan n c h = absurd h
not_nan (inf s) n c h = absurd h
not_nan (fin s m e) n c h = tt

pub neg_not_nan : (x : Float) (n c : ℕ) → HasValue x false n c → T (not (is_nan (neg x)))
unfolding is_nan neg
neg_not_nan nan n c h = absurd h
neg_not_nan (inf s) n c h = absurd h
neg_not_nan (fin s m e) n c h = tt

pub neg_bits : (x : Float) (n c : ℕ) → HasValue x false n c → to_bits binary64 (neg x) ≡ 2 ^ 63 + to_bits binary64 x
unfolding to_bits neg
neg_bits nan n c h = absurd h
neg_bits (inf s) n c h = absurd h
neg_bits (fin true m e) n c h = absurd (true≢false h.0)
neg_bits (fin false m e) n c h = omega arith

pub quotient_value : (m k : ℕ) → m < 10 ^ 15 → k ≤ 22 → HasValue (quotient_of m k) false (kept 53 (m * 2 ^ 1074) (10 ^ k) * 2 ^ drop 53 (m * 2 ^ 1074) (10 ^ k)) (2 ^ 1074)
quotient_value m k h l = subst (λ (x : Float). HasValue x false (kept 53 (m * 2 ^ 1074) (10 ^ k) * 2 ^ drop 53 (m * 2 ^ 1074) (10 ^ k)) (2 ^ 1074)) (sym (rounded_once m k h l)) (rounded_value m (10 ^ k) h)

-- ---- what the code asks of its casts and its product

pub in-float : (n : ℕ) → n ≤ 2 ^ 53 → T (in_float binary64 (pos n))
unfolding in_float
in-float n h = le→leb n (2 ^ 53) h

-- a power up to 10 ^ 15 is below 2 ^ 53
pub power_small : (k : ℕ) → k ≤ 15 → 10 ^ k ≤ 2 ^ 53
power_small k h = le_trans (pow-le-pow_right (lit≤ tt) h) (lit≤ tt)

-- the product of two powers that are cast is the power, cast
pub product : (i j : ℕ) → i ≤ 15 → j ≤ 15 → mul binary64 (of_int binary64 (pos (10 ^ i))) (of_int binary64 (pos (10 ^ j))) ≡ of_int binary64 (pos (10 ^ (i + j)))
unfolding of_int
product i j h l =
    let x = whole_exact (10 ^ i) (power_small i h) in
    let y = whole_exact (10 ^ j) (power_small j l) in
    mul_at binary64 (of_int binary64 (pos (10 ^ i))) (of_int binary64 (pos (10 ^ j))) (10 ^ i) 1 (10 ^ j) 1
    (positive_of_value (of_int binary64 (pos (10 ^ i))) (10 ^ i) 1 x (ten_pos i)) (positive_of_value (of_int binary64 (pos (10 ^ j))) (10 ^ j) 1 y (ten_pos j)) (lit< tt) (lit< tt) x y
    ∙ ap (λ (n : ℕ). round binary64 false n 1) (sym (pow-add 10 i j))

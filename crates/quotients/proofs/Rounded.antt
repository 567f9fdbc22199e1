-- A fraction m / 10 ^ e rounded to an f64: its pattern, and that it is at most half a gap away. Assumes nothing.
use Prim.Native.Nat.{ℕ, zero, suc, ◌+◌, ◌-◌, ◌*◌, ◌/◌, ◌%◌, ◌^◌, ◌≤◌, ◌<◌, compare}
use native.Mathlib.Nat.{le_trans, le_of_eq, lt_of_le_of_lt, lt_of_lt_of_le, mul-pos, mul_assoc, mul_comm, mul-le-mul_left, mul-le-mul_right, div-le_self, div-div-eq-div-mul, mul-div_cancel, le-div_iff_mul-le, zero-add, zero-mul, suc-mul, one-mul, pow-le-pow_right, eq-or-lt_of_le, one-le-pow}
use native.Mathlib.Omega.{arith}
use mathlib.Core.Path.{◌≡◌, refl, sym, ap, ◌∙◌, subst}
use mathlib.Core.Logic.{◌⊎◌, inl, inr}
use mathlib.Core.Bool.{true, false, true≢false}
use lib.Dec.{lit≤, lit<}
use lib.Pow.{pow-add, pow_pos, pow-lt, shl_lt}
use lib.Ieee.{Float, nan, inf, fin, binary64, down, size, round, to_bits}
use lib.Ieee.Digits.{size-le, size_reaches}
use lib.Ieee.Fits.{kept-lt, nearest-le, down_pos}
use lib.Ieee.Exact.{HasValue}
use lib.Ieee.Nearest.{nearest-ge}
use lib.Ieee.Order.{drop, kept}
use lib.Ieee.Scale.{round_val, normal_of_fraction}
use Rattle.quotients.specs.Quotient.{units_of, HalfGap}
use Rattle.quotients.proofs.Near.{Near, closest_near}
use Rattle.quotients.proofs.Patterns.{pattern_of, pattern_is, units_at, gap_above, gap_below}

-- ---- the pattern of a value, by its magnitude in units

pub bits_of : (x : Float) (n : ℕ) → HasValue x false n (2 ^ 1074) → to_bits binary64 x ≡ pattern_of n
unfolding to_bits
bits_of nan n h = absurd h
bits_of (inf s) n h = absurd h
bits_of (fin true m e) n h = absurd (true≢false h.0)
bits_of (fin false m e) n h =
    ap (λ (v : ℕ). 0 + (size v - 53) * 2 ^ 52 + v / 2 ^ (size v - 53)) (ap (λ (x : ℕ). x / down e) h.1 ∙ mul-div_cancel n (down_pos e))
    ∙ ap (λ (x : ℕ). x + n / 2 ^ (size n - 53)) (zero-add ((size n - 53) * 2 ^ 52))

-- ---- what is kept of n / d: 53 digits at most, and 53 where n / d has as many

kept_high : (n d : ℕ) → kept 53 n d ≤ 2 ^ 53
kept_high n d =
    let k = drop 53 n d in
    let u = d * 2 ^ k in
    le_trans (nearest-le (n / u) (compare (n % u * 2) u)) (subst (λ (x : ℕ). x < 2 ^ 53) (div-div-eq-div-mul n d (2 ^ k)) (kept-lt 53 (n / d)))

reach : (z : ℕ) → 53 ≤ z → 52 + (z - 53) < z
reach z h = omega arith

module _ (n d : ℕ) (normal : 53 ≤ size (n / d)) where
  lead : 2 ^ 52 * 2 ^ drop 53 n d ≤ n / d
  lead = le_trans (le_of_eq (sym (pow-add 2 52 (drop 53 n d)))) (size_reaches (n / d) (52 + drop 53 n d) (reach (size (n / d)) normal))

  kept_low : 2 ^ 52 ≤ kept 53 n d
  kept_low =
      let k = drop 53 n d in
      let u = d * 2 ^ k in
      le_trans (subst (λ (x : ℕ). 2 ^ 52 ≤ x) (div-div-eq-div-mul n d (2 ^ k)) ((le-div_iff_mul-le (pow_pos k)).1 lead)) (nearest-ge (n / u) (compare (n % u * 2) u))

  -- the fraction is not below the least that is kept
  least : 0 < d → 2 ^ 52 * (d * 2 ^ drop 53 n d) ≤ n
  least h =
      let k = drop 53 n d in
      le_trans (le_of_eq (ap (λ (x : ℕ). 2 ^ 52 * x) (mul_comm d (2 ^ k)) ∙ sym (mul_assoc (2 ^ 52) (2 ^ k) d))) ((le-div_iff_mul-le h).0 lead)

-- ---- half a gap, over variables

up_side : (n v b u g : ℕ) → v ≡ b → (n - b) * 2 ≤ u → u ≤ g → (n - v) * 2 ≤ g
up_side n v b u g e h l = omega arith

down_side : (n v b u g : ℕ) → v ≡ b → (b - n) * 2 ≤ u → u ≤ g → (v - n) * 2 ≤ g
down_side n v b u g e h l = omega arith

no_distance : (n v b g : ℕ) → v ≡ b → b ≤ n → (v - n) * 2 ≤ g
no_distance n v b g e l = omega arith

more : (p x y : ℕ) → p + x ≤ y → p ≤ y - x
more p x y h = omega arith

less : (p x y : ℕ) → y + p ≡ x → p ≤ x - y
less p x y h = omega arith

module _ (n d : ℕ) (D : 0 < d) (normal : 53 ≤ size (n / d)) where
  abbrev K : ℕ
  K = drop 53 n d

  abbrev Q : ℕ
  Q = kept 53 n d

  abbrev B : ℕ
  B = K * 2 ^ 52 + Q

  units : units_of B ≡ Q * 2 ^ K
  units = units_at K Q (kept_low n d normal) (kept_high n d)

  scaled : units_of B * d ≡ Q * (d * 2 ^ K)
  scaled = ap (λ (x : ℕ). x * d) units ∙ mul_assoc Q (2 ^ K) d ∙ ap (λ (x : ℕ). Q * x) (mul_comm (2 ^ K) d)

  near : Near n (d * 2 ^ K) Q
  near = closest_near n (d * 2 ^ K) (mul-pos D (pow_pos K))

  pub half_above : units_of B * d ≤ n → (n - units_of B * d) * 2 ≤ (units_of (B + 1) - units_of B) * d
  half_above h =
      let g : 2 ^ K ≤ units_of (B + 1) - units_of B = more (2 ^ K) (units_of B) (units_of (B + 1)) (subst (λ (x : ℕ). 2 ^ K + x ≤ units_of (B + 1)) (sym units) (gap_above K Q (kept_low n d normal) (kept_high n d))) in
      up_side n (units_of B * d) (Q * (d * 2 ^ K)) (d * 2 ^ K) ((units_of (B + 1) - units_of B) * d) scaled
      (near.above (subst (λ (x : ℕ). x ≤ n) scaled h))
      (le_trans (le_of_eq (mul_comm d (2 ^ K))) (mul-le-mul_right d g))

  pub half_below : n ≤ units_of B * d → (units_of B * d - n) * 2 ≤ (units_of B - units_of (B - 1)) * d
  half_below h = go (eq-or-lt_of_le (kept_low n d normal))
    where
      go : (2 ^ 52 ≡ Q) ⊎ (2 ^ 52 < Q) → (units_of B * d - n) * 2 ≤ (units_of B - units_of (B - 1)) * d
      go (inl e) =
          no_distance n (units_of B * d) (Q * (d * 2 ^ K)) ((units_of B - units_of (B - 1)) * d) scaled (subst (λ (x : ℕ). x * (d * 2 ^ K) ≤ n) e (least n d normal D))
      go (inr l) =
          let g : 2 ^ K ≤ units_of B - units_of (B - 1) = less (2 ^ K) (units_of B) (units_of (B - 1)) (gap_below K Q l (kept_high n d) ∙ sym units) in
          down_side n (units_of B * d) (Q * (d * 2 ^ K)) (d * 2 ^ K) ((units_of B - units_of (B - 1)) * d) scaled
          (near.below (subst (λ (x : ℕ). n ≤ x) scaled h))
          (le_trans (le_of_eq (mul_comm d (2 ^ K))) (mul-le-mul_right d g))

-- ---- the rounded fraction

-- no f64 of this form is an infinity
cut : (z : ℕ) → z ≤ 1124 → 53 + (z - 53) < 2098
cut z h = omega arith

pub small : (m d : ℕ) → m < 10 ^ 15 → kept 53 (m * 2 ^ 1074) d * 2 ^ drop 53 (m * 2 ^ 1074) d < 2 ^ 2098
small m d h =
    let n = m * 2 ^ 1074 in
    let l : m < 2 ^ 50 = lt_of_lt_of_le h (lit≤ tt) in
    let z : size (n / d) ≤ 1124 = size-le (n / d) 1124 (lt_of_le_of_lt (div-le_self n d) (shl_lt 50 1074 l)) in
    lt_of_le_of_lt (mul-le-mul_right (2 ^ drop 53 n d) (kept_high n d)) (lt_of_le_of_lt (le_of_eq (sym (pow-add 2 53 (drop 53 n d)))) (pow-lt (cut (size (n / d)) z)))

pub rounded_value : (m d : ℕ) → m < 10 ^ 15 → HasValue (round binary64 false m d) false (kept 53 (m * 2 ^ 1074) d * 2 ^ drop 53 (m * 2 ^ 1074) d) (2 ^ 1074)
rounded_value m d h = round_val binary64 m d (small m d h)

pub ten_pos : (e : ℕ) → 0 < 10 ^ e
ten_pos e = one-le-pow e 10 (lit≤ tt)

-- from 1 / 10 ^ 22 on the fraction is in the normal range
pub is_normal : (m e : ℕ) → 0 < m → e ≤ 22 → 53 ≤ size (m * 2 ^ 1074 / 10 ^ e)
is_normal m e h l =
    normal_of_fraction binary64 m (10 ^ e) (ten_pos e)
    (le_trans (mul-le-mul_left (2 ^ 52) (pow-le-pow_right (lit≤ tt) l)) (le_trans (lit≤ tt) (le_trans (le_of_eq (sym (one-mul (2 ^ 1074)))) (mul-le-mul_right (2 ^ 1074) h))))

pub bits_normal : (m e : ℕ) → 0 < m → m < 10 ^ 15 → e ≤ 22 → to_bits binary64 (round binary64 false m (10 ^ e)) ≡ drop 53 (m * 2 ^ 1074) (10 ^ e) * 2 ^ 52 + kept 53 (m * 2 ^ 1074) (10 ^ e)
bits_normal m e p h l =
    let n = m * 2 ^ 1074 in
    bits_of (round binary64 false m (10 ^ e)) _ (rounded_value m (10 ^ e) h)
    ∙ pattern_is (drop 53 n (10 ^ e)) (kept 53 n (10 ^ e)) (kept_low n (10 ^ e) (is_normal m e p l)) (kept_high n (10 ^ e))

-- nothing is kept of 0
kept_zero : (q u : ℕ) → 0 < u → Near 0 u q → q ≡ 0
kept_zero zero u h r = refl
kept_zero (suc q) u h r = absurd (omega (arith, suc-mul q u, r.below (omega arith)))

pattern_zero : pattern_of 0 ≡ 0
unfolding size
pattern_zero = refl

pub bits_zero : (e : ℕ) → to_bits binary64 (round binary64 false 0 (10 ^ e)) ≡ 0
bits_zero e =
    let k = drop 53 0 (10 ^ e) in
    let u = 10 ^ e * 2 ^ k in
    let z : kept 53 0 (10 ^ e) ≡ 0 = kept_zero (kept 53 0 (10 ^ e)) u (mul-pos (ten_pos e) (pow_pos k)) (closest_near 0 u (mul-pos (ten_pos e) (pow_pos k))) in
    bits_of (round binary64 false 0 (10 ^ e)) _ (rounded_value 0 (10 ^ e) (lit< tt))
    ∙ ap (λ (x : ℕ). pattern_of (x * 2 ^ k)) z
    ∙ ap pattern_of (zero-mul (2 ^ k))
    ∙ pattern_zero

units_zero : units_of 0 ≡ 0
unfolding units_of
units_zero = refl

-- where both are 0
none_away : (x v g : ℕ) → x ≡ 0 → (x - v) * 2 ≤ g
none_away x v g e = omega arith

half_zero : (e : ℕ) → HalfGap 0 e 0
half_zero e =
    record {
      above = λ h. none_away (0 * 2 ^ 1074) (units_of 0 * 10 ^ e) _ (zero-mul (2 ^ 1074));
      below = λ h. none_away (units_of 0 * 10 ^ e) (0 * 2 ^ 1074) _ (ap (λ (x : ℕ). x * 10 ^ e) units_zero ∙ zero-mul (10 ^ e));
    }

-- ---- the whole

pub half_gap_rounded : (m e : ℕ) → m < 10 ^ 15 → e ≤ 22 → HalfGap m e (to_bits binary64 (round binary64 false m (10 ^ e)))
half_gap_rounded zero e h l = subst (λ (b : ℕ). HalfGap 0 e b) (sym (bits_zero e)) (half_zero e)
half_gap_rounded (suc m) e h l =
    let n = suc m * 2 ^ 1074 in
    let r = is_normal (suc m) e (omega arith) l in
    subst (λ (b : ℕ). HalfGap (suc m) e b) (sym (bits_normal (suc m) e (omega arith) h l))
    (record { above = half_above n (10 ^ e) (ten_pos e) r; below = half_below n (10 ^ e) (ten_pos e) r })

-- What `units_of` is: the magnitude that IEEE 754 gives to a pattern; and the next pattern is the neighbour, since patterns and magnitudes have one order. Assumes nothing.
use Prim.Native.Nat.{ℕ, zero, suc, ◌+◌, ◌*◌, ◌/◌, ◌%◌, ◌^◌, ◌≤◌, ◌<◌}
use native.Mathlib.Nat.{mul-one, mod-eq_of_lt, mod-lt, div-add-mod', div-lt_iff_lt-mul, lt_of_lt_of_le, le_of_eq, mul-lt-mul_of_pos_right, mul_assoc, mul_comm, pow-suc, eq-or-lt_of_le}
use native.Mathlib.Omega.{arith}
use mathlib.Core.Path.{◌≡◌, sym, ap, ◌∙◌, subst}
use mathlib.Core.Logic.{◌⊎◌, inl, inr}
use mathlib.Core.Bool.{Bool, false, cond}
use lib.Dec.{eqb, lit≤, lit<}
use lib.Pow.{pow_pos}
use borrow.Author.Tests.{lt-leb, ne_eqb}
use lib.Ieee.{nan, inf, binary64, odd, of_fields, of_bits}
use lib.Ieee.Exact.{HasValue, odd_sign}
use Rattle.quotients.specs.Quotient.{units_in, units_of}
use Rattle.quotients.proofs.Patterns.{at_fields}

-- ---- the magnitude of a pattern

fields_value : (x t : ℕ) → x < 2047 → HasValue (of_fields binary64 false x t) false (units_in x t) (2 ^ 1074)
unfolding of_fields
fields_value zero t h = subst (λ (n : ℕ). HasValue (odd 53 false t 0 1074) false n (2 ^ 1074)) (mul-one t) (odd_sign 53 false t 0 1074)
fields_value (suc x) t h =
    subst (λ (b : Bool). HasValue (cond b (cond (eqb t 0) (inf false) nan) (odd 53 false (2 ^ 52 + t) x 1074)) false ((2 ^ 52 + t) * 2 ^ x) (2 ^ 1074))
    (sym (ne_eqb (suc x) 2047 (λ e. omega arith))) (odd_sign 53 false (2 ^ 52 + t) x 1074)

-- every pattern below that of an infinity
pub pattern_value : (b : ℕ) → b < 2047 * 2 ^ 52 → HasValue (of_bits binary64 b) false (units_of b) (2 ^ 1074)
unfolding of_bits units_of
pattern_value b h =
    let l : b < 2 ^ 63 = lt_of_lt_of_le h (lit≤ tt) in
    subst (λ (s : Bool). HasValue (of_fields binary64 s (b % 2 ^ 63 / 2 ^ 52) (b % 2 ^ 52)) false (units_in (b / 2 ^ 52) (b % 2 ^ 52)) (2 ^ 1074)) (sym (lt-leb (2 ^ 63) b l))
    (subst (λ (n : ℕ). HasValue (of_fields binary64 false (n / 2 ^ 52) (b % 2 ^ 52)) false (units_in (b / 2 ^ 52) (b % 2 ^ 52)) (2 ^ 1074)) (sym (mod-eq_of_lt l))
    (fields_value (b / 2 ^ 52) (b % 2 ^ 52) ((div-lt_iff_lt-mul (pow_pos 52)).1 h)))

-- ---- the next pattern is the neighbour above

grows_in : (x t : ℕ) → units_in x t < units_in x (suc t)
grows_in zero t = omega arith
grows_in (suc x) t = mul-lt-mul_of_pos_right (omega arith) (pow_pos x)

grows_out : (x t : ℕ) → suc t ≡ 2 ^ 52 → units_in x t < units_in (suc x) 0
grows_out zero t e = omega arith
grows_out (suc x) t e =
    let d : (2 ^ 52 + 0) * 2 ^ suc x ≡ 2 ^ 53 * 2 ^ x = ap (λ (n : ℕ). 2 ^ 52 * n) (pow-suc 2 x ∙ mul_comm (2 ^ x) 2) ∙ sym (mul_assoc (2 ^ 52) 2 (2 ^ x)) in
    lt_of_lt_of_le (mul-lt-mul_of_pos_right {m = 2 ^ 52 + t} {n = 2 ^ 53} (omega arith) (pow_pos x)) (le_of_eq (sym d))

pub next_above : (b : ℕ) → units_of b < units_of (b + 1)
next_above b =
    let x = b / 2 ^ 52 in
    let t = b % 2 ^ 52 in
    let e : x * 2 ^ 52 + t ≡ b = div-add-mod' b (2 ^ 52) in
    let l : t < 2 ^ 52 = mod-lt b (pow_pos 52) in
    go x t e l (eq-or-lt_of_le l)
  where
    go : (x t : ℕ) → x * 2 ^ 52 + t ≡ b → t < 2 ^ 52 → (suc t ≡ 2 ^ 52) ⊎ (suc t < 2 ^ 52) → units_of b < units_of (b + 1)
    go x t e l (inl f) =
        let n : b + 1 ≡ suc x * 2 ^ 52 + 0 = omega arith in
        subst (λ (m : ℕ). m < units_of (b + 1)) (sym (at_fields x t l) ∙ ap units_of e)
        (subst (λ (m : ℕ). units_in x t < m) (sym (ap units_of n ∙ at_fields (suc x) 0 (lit< tt))) (grows_out x t f))
    go x t e l (inr f) =
        let n : b + 1 ≡ x * 2 ^ 52 + suc t = omega arith in
        subst (λ (m : ℕ). m < units_of (b + 1)) (sym (at_fields x t l) ∙ ap units_of e)
        (subst (λ (m : ℕ). units_in x t < m) (sym (ap units_of n ∙ at_fields x (suc t) f)) (grows_in x t))

-- and no f64 lies between: a greater magnitude has a greater pattern
pub order : (b d : ℕ) → b < d → units_of b < units_of d
order b zero h = absurd (omega arith)
order b (suc d) h =
    let s : d + 1 ≡ suc d = omega arith in
    let n : units_of d < units_of (suc d) = subst (λ (m : ℕ). units_of d < units_of m) s (next_above d) in
    let l : b ≤ d = omega arith in
    by (eq-or-lt_of_le l) n (λ k. order b d k)
  where
    by : (b ≡ d) ⊎ (b < d) → units_of d < units_of (suc d) → (b < d → units_of b < units_of d) → units_of b < units_of (suc d)
    by (inl e) n f = subst (λ (m : ℕ). units_of m < units_of (suc d)) (sym e) n
    by (inr l) n f = omega (arith, f l)

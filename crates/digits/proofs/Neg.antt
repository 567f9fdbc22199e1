-- Laws of the negative numbers -m, by their magnitudes m, and of the machine's operations on them. Assumes nothing.
use Prim.Native.Nat.{ℕ, zero, suc, ◌+◌, ◌-◌, ◌*◌, ◌/◌, ◌^◌, ◌≤◌, ◌<◌}
use native.Mathlib.Nat.{zero-div, zero-mul, div-le_self}
use native.Mathlib.Omega.{arith}
use mathlib.Core.Bool.{true, false}
use mathlib.Core.Path.{◌≡◌, refl, sym, ◌∙◌, ap}
use lib.Dec.{ltb, leb-suc-suc}
use lib.IntN.{ℤ, pos, negsuc, neg_ℤ, nat_abs, neg_ℤ-+ℤ, ◌*ℤ◌, ◌+ℤ◌, ◌-ℤ◌}
use lib.Signed.{lt_z, quot_z}
use borrow.Author.Tests.{lt-ltb, le-ltb, ltb-true, ltb-false}
use Rattle.digits.specs.inner.Down.{down_of}
use Rattle.digits.specs.declared.up.Turned.{Turned}
use Rattle.text.proofs.Choices.{bool_cases, either}
use mir.Syntax.{w64}
use mir.Val.{SFits, to_z, of_z}
use mir.ValLaws.{to_z-of_z, to_z_pos}
use Rattle.digits.specs.declared.up.Turned.TheVariants as turned

neg_fits : (m : ℕ) → m ≤ 2 ^ 63 → SFits w64 (neg_ℤ (pos m))
neg_fits zero h = record { sfits = omega arith }
neg_fits (suc m) h = record { sfits = omega arith }

quot_neg : (l b : ℕ) → quot_z (neg_ℤ (pos l)) (pos b) ≡ neg_ℤ (pos (l / b))
quot_neg zero b = rw zero-div
quot_neg (suc l) b = refl

lt_neg : (a b : ℕ) → lt_z (neg_ℤ (pos a)) (neg_ℤ (pos b)) ≡ ltb b a
lt_neg zero zero = refl
lt_neg zero (suc b) = sym (le-ltb (suc b) zero (omega arith))
lt_neg (suc a) zero = sym (lt-ltb zero (suc a) (omega arith))
lt_neg (suc a) (suc b) = sym (leb-suc-suc (suc b) a)

mul_neg : (a b : ℕ) → neg_ℤ (pos a) *ℤ pos b ≡ neg_ℤ (pos (a * b))
mul_neg zero b = rw zero-mul
mul_neg (suc a) b = refl

sub_neg : (p e : ℕ) → neg_ℤ (pos p) -ℤ pos e ≡ neg_ℤ (pos (p + e))
sub_neg p e = sym (neg_ℤ-+ℤ (pos p) (pos e))

same_test : (a b c d : ℕ) → (a < b → c < d) → (b ≤ a → d ≤ c) → ltb a b ≡ ltb c d
same_test a b c d f g =
    either (bool_cases (ltb a b)) (λ e. e ∙ sym (lt-ltb c d (f (ltb-true a b e)))) (λ e. e ∙ sym (le-ltb c d (g (ltb-false a b e))))

-- p + e passes l exactly when -p is below -l + e
add_lt : (p l e : ℕ) → lt_z (neg_ℤ (pos p)) (neg_ℤ (pos l) +ℤ pos e) ≡ ltb l (p + e)
add_lt zero zero e = refl
add_lt (suc p) zero e = sym (lt-ltb zero (suc p + e) (omega arith))
add_lt p (suc l) e = either (bool_cases (ltb e (suc l))) (below p) (above p)
  where
    below : (q : ℕ) → ltb e (suc l) ≡ true → lt_z (neg_ℤ (pos q)) (negsuc l +ℤ pos e) ≡ ltb (suc l) (q + e)
    below zero t = simp t (sym (le-ltb (suc l) (zero + e) (omega (arith, ltb-true e (suc l) t))))
    below (suc q) t = simp t (same_test (suc l - suc e) q (suc l) (suc q + e) (λ h. omega (arith, ltb-true e (suc l) t, h)) (λ h. omega (arith, ltb-true e (suc l) t, h)))

    above : (q : ℕ) → ltb e (suc l) ≡ false → lt_z (neg_ℤ (pos q)) (negsuc l +ℤ pos e) ≡ ltb (suc l) (q + e)
    above zero t = simp t (same_test zero (e - suc l) (suc l) (zero + e) (λ h. omega (arith, h)) (λ h. omega (arith, h)))
    above (suc q) t = simp t (sym (lt-ltb (suc l) (suc q + e) (omega (arith, ltb-false e (suc l) t))))

add_fits : (l e : ℕ) → l ≤ 2 ^ 63 → e ≤ 16 → SFits w64 (neg_ℤ (pos l) +ℤ pos e)
add_fits zero e h k = record { sfits = omega arith }
add_fits (suc l) e h k =
    either (bool_cases (ltb e (suc l))) (λ t. simp t (record { sfits = omega arith })) (λ t. simp t (record { sfits = omega arith }))

-- two numbers that are not above 0, with a base
pub record Negative (acc low : ℤ) (base : ℕ) : Type 0 where
  pub acc_fits : SFits w64 acc
  pub low_fits : SFits w64 low
  pub acc_neg : acc ≡ neg_ℤ (pos (nat_abs acc))
  pub low_neg : low ≡ neg_ℤ (pos (nat_abs low))
  pub acc_le : nat_abs acc ≤ 2 ^ 63
  pub low_le : nat_abs low ≤ 2 ^ 63
  pub base_le : base ≤ 16

-- the machine's operations on them, which are read from their bits
module _ {acc low : ℤ} {base : ℕ} (n : Negative acc low base) where
  pub acc_is : to_z w64 (of_z w64 acc) ≡ neg_ℤ (pos (nat_abs acc))
  acc_is = to_z-of_z w64 acc n.acc_fits ∙ n.acc_neg

  low_is : to_z w64 (of_z w64 low) ≡ neg_ℤ (pos (nat_abs low))
  low_is = to_z-of_z w64 low n.low_fits ∙ n.low_neg

  base_is : to_z w64 base ≡ pos base
  base_is = to_z_pos w64 base (omega arith)

  quot_is : quot_z (to_z w64 (of_z w64 low)) (to_z w64 base) ≡ neg_ℤ (pos (nat_abs low / base))
  quot_is = rw (low_is, base_is) (quot_neg (nat_abs low) base)

  quot_le : nat_abs low / base ≤ 2 ^ 63
  quot_le = omega (arith, div-le_self (nat_abs low) base)

  pub quot_fits : SFits w64 (quot_z (to_z w64 (of_z w64 low)) (to_z w64 base))
  quot_fits = rw quot_is (neg_fits (nat_abs low / base) quot_le)

  pub quot_held : to_z w64 (of_z w64 (quot_z (to_z w64 (of_z w64 low)) (to_z w64 base))) ≡ neg_ℤ (pos (nat_abs low / base))
  quot_held = to_z-of_z w64 _ quot_fits ∙ quot_is

  pub test_is : {least : ℤ} → SFits w64 least → least ≡ neg_ℤ (pos (nat_abs low / base)) → lt_z (to_z w64 (of_z w64 acc)) (to_z w64 (of_z w64 least)) ≡ ltb (nat_abs low / base) (nat_abs acc)
  test_is {least} f e = rw (acc_is, to_z-of_z w64 least f ∙ e) (lt_neg (nat_abs acc) (nat_abs low / base))

  product_is : to_z w64 (of_z w64 acc) *ℤ to_z w64 base ≡ neg_ℤ (pos (nat_abs acc * base))
  product_is = rw (acc_is, base_is) (mul_neg (nat_abs acc) base)

  module _ (hp : nat_abs acc * base ≤ nat_abs low) where
    pub product_fits : SFits w64 (to_z w64 (of_z w64 acc) *ℤ to_z w64 base)
    product_fits = rw product_is (neg_fits (nat_abs acc * base) (omega (arith, n.low_le)))

    held : to_z w64 (of_z w64 (to_z w64 (of_z w64 acc) *ℤ to_z w64 base)) ≡ neg_ℤ (pos (nat_abs acc * base))
    held = to_z-of_z w64 _ product_fits ∙ product_is

    module _ (e : ℕ) (he : e ≤ 16) where
      digit_is : to_z w64 e ≡ pos e
      digit_is = to_z_pos w64 e (omega arith)

      sum_is : to_z w64 (of_z w64 low) +ℤ to_z w64 e ≡ neg_ℤ (pos (nat_abs low)) +ℤ pos e
      sum_is = rw (low_is, digit_is)

      pub sum_fits : SFits w64 (to_z w64 (of_z w64 low) +ℤ to_z w64 e)
      sum_fits = rw sum_is (add_fits (nat_abs low) e n.low_le he)

      pub over_is : lt_z (to_z w64 (of_z w64 (to_z w64 (of_z w64 acc) *ℤ to_z w64 base))) (to_z w64 (of_z w64 (to_z w64 (of_z w64 low) +ℤ to_z w64 e))) ≡ ltb (nat_abs low) (nat_abs acc * base + e)
      over_is = rw (held, to_z-of_z w64 _ sum_fits, sum_is) (add_lt (nat_abs acc * base) (nat_abs low) e)

      next_is : to_z w64 (of_z w64 (to_z w64 (of_z w64 acc) *ℤ to_z w64 base)) -ℤ to_z w64 e ≡ neg_ℤ (pos (nat_abs acc * base + e))
      next_is = rw (held, digit_is) (sub_neg (nat_abs acc * base) e)

      pub next_fits : nat_abs acc * base + e ≤ nat_abs low → SFits w64 (to_z w64 (of_z w64 (to_z w64 (of_z w64 acc) *ℤ to_z w64 base)) -ℤ to_z w64 e)
      next_fits h = rw next_is (neg_fits (nat_abs acc * base + e) (omega (arith, n.low_le)))

      pub next_held : (h : nat_abs acc * base + e ≤ nat_abs low) → to_z w64 (of_z w64 (to_z w64 (of_z w64 (to_z w64 (of_z w64 acc) *ℤ to_z w64 base)) -ℤ to_z w64 e)) ≡ neg_ℤ (pos (nat_abs acc * base + e))
      next_held h = to_z-of_z w64 _ (next_fits h) ∙ next_is

pub nat_abs_neg : (m : ℕ) → nat_abs (neg_ℤ (pos m)) ≡ m
nat_abs_neg zero = refl
nat_abs_neg (suc m) = refl

pub self : (z : ℤ) (m : ℕ) → z ≡ neg_ℤ (pos m) → z ≡ neg_ℤ (pos (nat_abs z))
self z m e = e ∙ ap (λ (k : ℕ). neg_ℤ (pos k)) (sym (ap nat_abs e ∙ nat_abs_neg m))

-- a turn's answer says which turn of the magnitude it is
pub down_next : (t : Turned ℕ) (z : ℤ) → down_of t ≡ turned.Next z → (k : ℕ) × ((t ≡ turned.Next k) × (z ≡ neg_ℤ (pos k)))
down_next (turned.Next k) z e = let q : neg_ℤ (pos k) ≡ z = cc in (k, (refl, sym q))
down_next turned.Over z e = let q : ◌≡◌ {A = ℕ} 0 1 = cc in absurd (omega arith)
down_next turned.NotDigit z e = let q : ◌≡◌ {A = ℕ} 0 1 = cc in absurd (omega arith)

pub down_over : (t : Turned ℕ) → down_of t ≡ turned.Over → t ≡ turned.Over
down_over (turned.Next k) e = let q : ◌≡◌ {A = ℕ} 0 1 = cc in absurd (omega arith)
down_over turned.Over e = refl
down_over turned.NotDigit e = let q : ◌≡◌ {A = ℕ} 0 1 = cc in absurd (omega arith)

pub down_not : (t : Turned ℕ) → down_of t ≡ turned.NotDigit → t ≡ turned.NotDigit
down_not (turned.Next k) e = let q : ◌≡◌ {A = ℕ} 0 1 = cc in absurd (omega arith)
down_not turned.Over e = let q : ◌≡◌ {A = ℕ} 0 1 = cc in absurd (omega arith)
down_not turned.NotDigit e = refl

use Prim.Native.Nat.{◌*◌, ◌+◌, ◌<◌, ◌≤◌, ℕ}
use native.Mathlib.Nat.{div-lt_iff_lt-mul, le-div_iff_mul-le}
use native.Mathlib.Omega.{arith}
use mathlib.Core.Path.{◌∙◌, ap, sym}
use lib.IntN.{nat_abs, pos, neg_ℤ}
use lib.Signed.{nat_abs-le}
use borrow.Author.Tests.{eq-eqb, le-leb, le-ltb, lt-leb, lt-ltb, ltb-false, ltb-true, ne_eqb}
use Rattle.digits.specs.Digits.{hex_of, turn_of}
use Rattle.hexes.proofs.HexLaws.{digit_value, no_digit}
use Rattle.digits.specs.declared.up.Turned.TheVariants.{Next}
use Rattle.digits.proofs.Neg as neg
use Rattle.digits.proofs.down.turn_down.Goals as goal

pub returns-then-c-eq95 : goal.returns-then-c-eq95
unfolding turn_of
returns-then-c-eq95 c =
    let negative : neg.Negative c.args.acc c.args.low c.args.base = record {
      acc_fits = c.ranges.acc;
      low_fits = c.ranges.low;
      acc_neg = c.requires.2;
      low_neg = c.requires.3;
      acc_le = nat_abs-le c.args.acc c.ranges.acc.sfits;
      low_le = nat_abs-le c.args.low c.ranges.low.sfits;
      base_le = c.requires.1;
    } in
    simp (eq-eqb _ _ c.if-c-eq95.true) (ap Next (neg.acc_is (negative)))

pub returns-then-acc-least : goal.returns-then-acc-least
unfolding turn_of
returns-then-acc-least c =
    let negative : neg.Negative c.args.acc c.args.low c.args.base = record {
      acc_fits = c.ranges.acc;
      low_fits = c.ranges.low;
      acc_neg = c.requires.2;
      low_neg = c.requires.3;
      acc_le = nat_abs-le c.args.acc c.ranges.acc.sfits;
      low_le = nat_abs-le c.args.low c.ranges.low.sfits;
      base_le = c.requires.1;
    } in
    let q = ltb-true _ _ (sym (neg.test_is (negative) c.ranges.least c.requires.4) ∙ c.if-acc-least.true) in
    simp (ne_eqb _ _ c.if-c-eq95.false, lt-ltb _ _ ((div-lt_iff_lt-mul c.requires.0).0 q))

pub overflow_mul-product : goal.overflow_mul-product
overflow_mul-product c =
    let negative : neg.Negative c.args.acc c.args.low c.args.base = record {
      acc_fits = c.ranges.acc;
      low_fits = c.ranges.low;
      acc_neg = c.requires.2;
      low_neg = c.requires.3;
      acc_le = nat_abs-le c.args.acc c.ranges.acc.sfits;
      low_le = nat_abs-le c.args.low c.ranges.low.sfits;
      base_le = c.requires.1;
    } in
    let product : nat_abs c.args.acc * c.args.base ≤ nat_abs c.args.low = (le-div_iff_mul-le c.requires.0).0 (ltb-false _ _ (sym (neg.test_is (negative) c.ranges.least c.requires.4) ∙ c.if-acc-least.false)) in
    neg.product_fits (negative) (product)

pub returns-in_default : goal.returns-in_default
unfolding turn_of
returns-in_default c =
    let negative : neg.Negative c.args.acc c.args.low c.args.base = record {
      acc_fits = c.ranges.acc;
      low_fits = c.ranges.low;
      acc_neg = c.requires.2;
      low_neg = c.requires.3;
      acc_le = nat_abs-le c.args.acc c.ranges.acc.sfits;
      low_le = nat_abs-le c.args.low c.ranges.low.sfits;
      base_le = c.requires.1;
    } in
    let product : nat_abs c.args.acc * c.args.base ≤ nat_abs c.args.low = (le-div_iff_mul-le c.requires.0).0 (ltb-false _ _ (sym (neg.test_is (negative) c.ranges.least c.requires.4) ∙ c.if-acc-least.false)) in
    let a = c.args in
    let z = no_digit a.c (sym c.decode_hex-digit.ensures ∙ c.in_default.is) in
    simp (ne_eqb _ _ c.if-c-eq95.false, le-ltb _ _ (product), le-leb a.base (hex_of a.c) (omega (arith, z, c.requires.1)))

pub returns-then-base-d : goal.returns-then-base-d
unfolding turn_of
returns-then-base-d c =
    let negative : neg.Negative c.args.acc c.args.low c.args.base = record {
      acc_fits = c.ranges.acc;
      low_fits = c.ranges.low;
      acc_neg = c.requires.2;
      low_neg = c.requires.3;
      acc_le = nat_abs-le c.args.acc c.ranges.acc.sfits;
      low_le = nat_abs-le c.args.low c.ranges.low.sfits;
      base_le = c.requires.1;
    } in
    let product : nat_abs c.args.acc * c.args.base ≤ nat_abs c.args.low = (le-div_iff_mul-le c.requires.0).0 (ltb-false _ _ (sym (neg.test_is (negative) c.ranges.least c.requires.4) ∙ c.if-acc-least.false)) in
    let a = c.args in
    let v = digit_value a.c _ (sym c.decode_hex-digit.ensures ∙ c.in-Some.is) in
    simp (ne_eqb _ _ c.if-c-eq95.false, le-ltb _ _ (product), le-leb a.base (hex_of a.c) (omega (arith, v)))

pub returns-then-product-low : goal.returns-then-product-low
unfolding turn_of
returns-then-product-low c =
    let negative : neg.Negative c.args.acc c.args.low c.args.base = record {
      acc_fits = c.ranges.acc;
      low_fits = c.ranges.low;
      acc_neg = c.requires.2;
      low_neg = c.requires.3;
      acc_le = nat_abs-le c.args.acc c.ranges.acc.sfits;
      low_le = nat_abs-le c.args.low c.ranges.low.sfits;
      base_le = c.requires.1;
    } in
    let product : nat_abs c.args.acc * c.args.base ≤ nat_abs c.args.low = (le-div_iff_mul-le c.requires.0).0 (ltb-false _ _ (sym (neg.test_is (negative) c.ranges.least c.requires.4) ∙ c.if-acc-least.false)) in
    let a = c.args in
    let v = digit_value a.c _ (sym c.decode_hex-digit.ensures ∙ c.in-Some.is) in
    let q : nat_abs a.low < nat_abs a.acc * a.base + c.in-Some.h = ltb-true _ _ (sym (neg.over_is (negative) (product) c.in-Some.h (omega arith)) ∙ c.if-product-low.true) in
    simp (ne_eqb _ _ c.if-c-eq95.false, le-ltb _ _ (product), lt-leb a.base (hex_of a.c) (omega (arith, v)), lt-ltb (nat_abs a.low) (nat_abs a.acc * a.base + hex_of a.c) (omega (arith, v, q)))

pub overflow_sub-next : goal.overflow_sub-next
overflow_sub-next c =
    let negative : neg.Negative c.args.acc c.args.low c.args.base = record {
      acc_fits = c.ranges.acc;
      low_fits = c.ranges.low;
      acc_neg = c.requires.2;
      low_neg = c.requires.3;
      acc_le = nat_abs-le c.args.acc c.ranges.acc.sfits;
      low_le = nat_abs-le c.args.low c.ranges.low.sfits;
      base_le = c.requires.1;
    } in
    let product : nat_abs c.args.acc * c.args.base ≤ nat_abs c.args.low = (le-div_iff_mul-le c.requires.0).0 (ltb-false _ _ (sym (neg.test_is (negative) c.ranges.least c.requires.4) ∙ c.if-acc-least.false)) in
    neg.next_fits (negative) (product) c.in-Some.h (omega arith) (ltb-false _ _ (sym (neg.over_is (negative) (product) c.in-Some.h (omega arith)) ∙ c.if-product-low.false))

pub returns : goal.returns
unfolding turn_of
returns c =
    let negative : neg.Negative c.args.acc c.args.low c.args.base = record {
      acc_fits = c.ranges.acc;
      low_fits = c.ranges.low;
      acc_neg = c.requires.2;
      low_neg = c.requires.3;
      acc_le = nat_abs-le c.args.acc c.ranges.acc.sfits;
      low_le = nat_abs-le c.args.low c.ranges.low.sfits;
      base_le = c.requires.1;
    } in
    let product : nat_abs c.args.acc * c.args.base ≤ nat_abs c.args.low = (le-div_iff_mul-le c.requires.0).0 (ltb-false _ _ (sym (neg.test_is (negative) c.ranges.least c.requires.4) ∙ c.if-acc-least.false)) in
    let a = c.args in
    let v = digit_value a.c _ (sym c.decode_hex-digit.ensures ∙ c.in-Some.is) in
    let q : nat_abs a.acc * a.base + c.in-Some.h ≤ nat_abs a.low = ltb-false _ _ (sym (neg.over_is (negative) (product) c.in-Some.h (omega arith)) ∙ c.if-product-low.false) in
    simp (ne_eqb _ _ c.if-c-eq95.false, le-ltb _ _ (product), lt-leb a.base (hex_of a.c) (omega (arith, v)), le-ltb (nat_abs a.low) (nat_abs a.acc * a.base + hex_of a.c) (omega (arith, v, q)))
    (ap Next (neg.next_held (negative) (product) c.in-Some.h (omega arith) q ∙ ap (λ (d : ℕ). neg_ℤ (pos (nat_abs a.acc * a.base + d))) v))

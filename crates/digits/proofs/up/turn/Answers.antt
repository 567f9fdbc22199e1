use Prim.Native.Nat.{◌*◌, ◌+◌, ◌≤◌}
use native.Mathlib.Nat.{div-lt_iff_lt-mul, le-div_iff_mul-le}
use native.Mathlib.Omega.{arith}
use mathlib.Core.Path.{◌∙◌, sym}
use borrow.Author.Tests.{eq-eqb, le-leb, le-ltb, lt-leb, lt-ltb, ne_eqb}
use Rattle.digits.specs.Digits.{hex_of, turn_of}
use Rattle.hexes.proofs.HexLaws.{digit_value, no_digit}
use Rattle.digits.proofs.up.turn.Goals as goal

pub returns-then-c-eq95 : goal.returns-then-c-eq95
unfolding turn_of
returns-then-c-eq95 c = simp (eq-eqb _ _ c.if-c-eq95.true)

pub returns-then-most-acc : goal.returns-then-most-acc
unfolding turn_of
returns-then-most-acc c = simp (ne_eqb _ _ c.if-c-eq95.false, lt-ltb _ _ ((div-lt_iff_lt-mul c.requires.0).0 (rw c.requires.2 at c.if-most-acc.true)))

pub returns-in_default : goal.returns-in_default
unfolding turn_of
returns-in_default c =
    let a = c.args in
    let h : a.acc * a.base ≤ a.limit = (le-div_iff_mul-le c.requires.0).0 (rw c.requires.2 at c.if-most-acc.false) in
    let z = no_digit a.c (sym c.decode_hex-digit.ensures ∙ c.in_default.is) in
    simp (ne_eqb _ _ c.if-c-eq95.false, le-ltb _ _ h, le-leb a.base (hex_of a.c) (omega (arith, z, c.requires.1)))

pub returns-then-base-d : goal.returns-then-base-d
unfolding turn_of
returns-then-base-d c =
    let a = c.args in
    let v = digit_value a.c _ (sym c.decode_hex-digit.ensures ∙ c.in-Some.is) in
    let h : a.acc * a.base ≤ a.limit = (le-div_iff_mul-le c.requires.0).0 (rw c.requires.2 at c.if-most-acc.false) in
    simp (ne_eqb _ _ c.if-c-eq95.false, le-ltb _ _ h, le-leb a.base (hex_of a.c) (omega (arith, v)))

pub returns-then-limit-product : goal.returns-then-limit-product
unfolding turn_of
returns-then-limit-product c =
    let a = c.args in
    let v = digit_value a.c _ (sym c.decode_hex-digit.ensures ∙ c.in-Some.is) in
    let h : a.acc * a.base ≤ a.limit = (le-div_iff_mul-le c.requires.0).0 (rw c.requires.2 at c.if-most-acc.false) in
    simp (ne_eqb _ _ c.if-c-eq95.false, le-ltb _ _ h, lt-leb a.base (hex_of a.c) (omega (arith, v)), lt-ltb a.limit (a.acc * a.base + hex_of a.c) (omega (arith, v)))

pub returns : goal.returns
unfolding turn_of
returns c =
    let a = c.args in
    let v = digit_value a.c _ (sym c.decode_hex-digit.ensures ∙ c.in-Some.is) in
    let h : a.acc * a.base ≤ a.limit = (le-div_iff_mul-le c.requires.0).0 (rw c.requires.2 at c.if-most-acc.false) in
    simp (ne_eqb _ _ c.if-c-eq95.false, le-ltb _ _ h, lt-leb a.base (hex_of a.c) (omega (arith, v)), le-ltb a.limit (a.acc * a.base + hex_of a.c) (omega (arith, v)), v)

use Prim.Native.Nat.{◌*◌, ◌+◌, ◌-◌, ◌≤◌, ℕ}
use native.Mathlib.Omega.{arith}
use mathlib.Core.Path.{◌∙◌, ◌≡◌, ap, sym}
use lib.Dec.{eqb}
use mathlib.Core.Bool.{Bool}
use borrow.Author.Tests.{eq-eqb, eqb-false, eqb-true, ne_eqb}
use Rattle.text.proofs.Choices.{bool_cases, either}
use lib.ListN.{drop, get_or, length-drop}
use Rattle.escapes.proofs.EscapeLaws.{digits_bad, digits_brace, digits_done, digits_end, digits_more, room_fits, room_more, room_start, unicode_end, unicode_open, unicode_other}
use Rattle.hexes.proofs.HexLaws.{digit_lt, digit_some, digit_value, no_digit}
use Rattle.escapes.specs.Escapes.{close_of, digits_of}
use Rattle.escapes.specs.declared.answers.EscapeAnswer.TheVariants.{Refused}
use Rattle.text.proofs.Lists.{tail_part}
use Rattle.text.proofs.Utf8Agree.{char_len_le}
use Rattle.text.specs.Refusals.{invalid_escape}
use Rattle.text.specs.declared.reason.EscapeReason.TheVariants.{DigitNotHex}
use Rattle.escapes.proofs.unicode.unicode_escape.Goals as goal

pub returns-then-s-eq0 : goal.returns-then-s-eq0
returns-then-s-eq0 c = c.invalid.ensures ∙ sym (unicode_end c.args.at c.args.s.now c.if-s-eq0.true)

pub returns-then-s-ne123 : goal.returns-then-s-ne123
returns-then-s-ne123 c = c.invalid-then-s-ne123.ensures ∙ sym (unicode_other c.args.at c.args.s.now (omega arith) c.if-s-ne123.true)

pub loop-i-init : goal.loop-i-init
loop-i-init c = (omega arith, room_start, unicode_open c.args.at c.args.s.now (omega arith) c.if-s-ne123.false)

pub returns-then-s-i : goal.returns-then-s-i
returns-then-s-i c = c.ended.ensures ∙ sym (c.loop-i.invariant.2 ∙ digits_end (7 - c.loop-i.i) c.loop-i.v (c.args.at + c.loop-i.i) c.loop-i.i c.args.s.now (omega arith) c.if-s-i.true)

-- the first digit is the one of which six are left
first_is : (i : ℕ) → i ≤ 6 → eqb (7 - i) 6 ≡ eqb i 1
first_is i h =
    either (bool_cases (eqb i 1)) (λ e. eq-eqb (7 - i) 6 (omega (arith, eqb-true i 1 e)) ∙ sym e)
    (λ e. ne_eqb (7 - i) 6 (λ z. eqb-false i 1 e (omega arith)) ∙ sym e)

pub returns-then-b-eq125 : goal.returns-then-b-eq125
returns-then-b-eq125 c = (simp tail_part at c.close.ensures)
    ∙ sym (c.loop-i.invariant.2 ∙ digits_brace (7 - c.loop-i.i) c.loop-i.v (c.args.at + c.loop-i.i) c.loop-i.i c.args.s.now (omega arith) c.if-s-i.false c.if-b-eq125.true ∙ ap (λ (b : Bool). close_of b c.loop-i.v (c.args.at + c.loop-i.i) (drop c.loop-i.i c.args.s.now)) (first_is c.loop-i.i (omega arith)))

pub overflow_add-at-in_default-2 : goal.overflow_add-at-in_default-2
overflow_add-at-in_default-2 c = omega (arith, simp tail_part at c.char_len.ensures, char_len_le (drop c.loop-i.i c.args.s.now), length-drop c.loop-i.i c.args.s.now)

pub returns-in_default : goal.returns-in_default
returns-in_default c = c.invalid-in_default.ensures
    ∙ ap (λ (k : ℕ). Refused (invalid_escape DigitNotHex (c.args.at + c.loop-i.i + k))) (simp tail_part at c.char_len.ensures)
    ∙ sym (c.loop-i.invariant.2 ∙ digits_bad (7 - c.loop-i.i) c.loop-i.v (c.args.at + c.loop-i.i) c.loop-i.i c.args.s.now (omega arith) c.if-s-i.false c.if-b-eq125.false (no_digit (get_or c.args.s.now c.loop-i.i 0) (sym c.decode_hex-digit.ensures ∙ c.in_default.is)))

pub overflow_mul-v : goal.overflow_mul-v
overflow_mul-v c = omega (arith, room_fits (7 - c.loop-i.i) (omega arith))

pub overflow_add-v : goal.overflow_add-v
overflow_add-v c = omega (arith, room_fits (7 - c.loop-i.i) (omega arith), digit_lt (get_or c.args.s.now c.loop-i.i 0) _ (sym c.decode_hex-digit.ensures ∙ c.in-Some.is))

pub loop-i-preserved : goal.loop-i-preserved
loop-i-preserved c =
    let i = c.loop-i.i in
    let h = c.in-Some.h in
    let left : 7 - (i + 1) ≡ 7 - i - 1 = omega arith in
    let place : c.args.at + i + 1 ≡ c.args.at + (i + 1) = omega arith in
    let digit = sym c.decode_hex-digit.ensures ∙ c.in-Some.is in (
      omega arith,
      rw left (room_more (7 - i) c.loop-i.v h (omega arith) (omega arith) c.loop-i.invariant.1 (digit_lt (get_or c.args.s.now i 0) _ digit)),
      c.loop-i.invariant.2
          ∙ digits_more (7 - i) c.loop-i.v (c.args.at + i) i c.args.s.now (omega arith) c.if-s-i.false c.if-b-eq125.false (digit_some (get_or c.args.s.now i 0) _ digit)
          ∙ ap (λ (d : ℕ). digits_of (7 - i - 1) (c.loop-i.v * 16 + d) (c.args.at + i + 1) (drop (i + 1) c.args.s.now)) (sym (digit_value (get_or c.args.s.now i 0) _ digit))
          ∙ ap (λ (k : ℕ). digits_of (7 - i - 1) (c.loop-i.v * 16 + h) k (drop (i + 1) c.args.s.now)) place
          ∙ ap (λ (k : ℕ). digits_of k (c.loop-i.v * 16 + h) (c.args.at + (i + 1)) (drop (i + 1) c.args.s.now)) (sym left),
    )

pub returns : goal.returns
returns c =
    let e : c.loop-i.i ≡ 7 = omega arith in
    (simp tail_part at c.close-2.ensures)
    ∙ sym
    (c.loop-i.invariant.2
    ∙ ap (λ (k : ℕ). digits_of (7 - k) c.loop-i.v (c.args.at + k) (drop k c.args.s.now)) e
    ∙ digits_done c.loop-i.v (c.args.at + 7) (drop 7 c.args.s.now))

use Prim.Native.Nat.{◌+◌, ℕ}
use native.Mathlib.Omega.{arith}
use mathlib.Core.Path.{◌∙◌, ap, sym}
use lib.ListN.{drop, get_or, length-drop}
use borrow.Author.Tests.{eq-eqb, ne_eqb}
use Rattle.escapes.proofs.EscapeLaws.{two_at, two_end}
use Rattle.hexes.proofs.HexLaws.{digit_lt, digit_some, digit_value, no_digit}
use Rattle.escapes.specs.Escapes.{hex_of, second_digit}
use Rattle.escapes.specs.declared.answers.EscapeAnswer.TheVariants.{Refused}
use Rattle.text.proofs.Lists.{tail_part}
use Rattle.text.proofs.Utf8Agree.{char_len_le}
use Rattle.text.specs.Refusals.{invalid_escape}
use Rattle.text.specs.declared.reason.EscapeReason.TheVariants.{DigitNotHex}
use Rattle.escapes.proofs.digits.decode_ascii_escape.Goals as goal

pub returns-then-t-eq0 : goal.returns-then-t-eq0
returns-then-t-eq0 c = c.ended.ensures ∙ sym (two_end c.args.at c.args.t.now c.if-t-eq0.true)

pub overflow_add-at : goal.overflow_add-at
overflow_add-at c = omega (arith, c.char_len.ensures, char_len_le c.args.t.now)

pub returns-in_default : goal.returns-in_default
returns-in_default c = c.invalid.ensures ∙ ap (λ (k : ℕ). Refused (invalid_escape DigitNotHex (c.args.at + k))) c.char_len.ensures ∙ sym (two_at c.args.at c.args.t.now (omega arith) ∙ simp (eq-eqb (hex_of (get_or c.args.t.now 0 0)) 16 (no_digit (get_or c.args.t.now 0 0) (sym c.decode_hex-digit.ensures ∙ c.in_default.is))))

pub second_digit-requires : goal.second_digit-requires
second_digit-requires c = (simp tail_part (omega (arith, length-drop 1 c.args.t.now)), digit_lt (get_or c.args.t.now 0 0) _ (sym c.decode_hex-digit.ensures ∙ c.in-Some.is))

pub returns : goal.returns
returns c = (simp tail_part at c.second_digit.ensures) ∙ sym (two_at c.args.at c.args.t.now (omega arith) ∙ simp (ne_eqb (hex_of (get_or c.args.t.now 0 0)) 16 (digit_some (get_or c.args.t.now 0 0) _ (sym c.decode_hex-digit.ensures ∙ c.in-Some.is))) (ap (λ (k : ℕ). second_digit k (c.args.at + 1) (drop 1 c.args.t.now)) (sym (digit_value (get_or c.args.t.now 0 0) _ (sym c.decode_hex-digit.ensures ∙ c.in-Some.is)))))

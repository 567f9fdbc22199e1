use Prim.Native.Nat.{ℕ}
use native.Mathlib.Omega.{arith}
use mathlib.Core.Path.{◌∙◌, ap, sym}
use lib.ListN.{get_or}
use borrow.Author.Tests.{eq-eqb, ne_eqb}
use Rattle.escapes.proofs.EscapeLaws.{escape_at, escape_end, letter_small, letter_value, no_letter}
use Rattle.escapes.specs.declared.answers.EscapeAnswer.TheVariants.{Ascii, Refused}
use Rattle.text.proofs.Lists.{tail_part}
use Rattle.text.specs.Refusals.{invalid_escape}
use Rattle.text.specs.declared.reason.EscapeReason.TheVariants.{UnknownLetter}
use Rattle.escapes.proofs.parse_escape.Goals as goal

pub returns-then-s-eq0 : goal.returns-then-s-eq0
returns-then-s-eq0 c = c.ended.ensures ∙ sym (escape_end c.args.m c.args.s.now c.if-s-eq0.true)

pub returns-in-Some : goal.returns-in-Some
returns-in-Some c = sym (escape_at c.args.m c.args.s.now (omega arith) ∙ simp (letter_small (get_or c.args.s.now 0 0) _ (sym c.simple.ensures ∙ c.in-Some.is)) (ap (λ (k : ℕ). Ascii k 1) (sym (letter_value (get_or c.args.s.now 0 0) _ (sym c.simple.ensures ∙ c.in-Some.is)))))

pub returns-then-b-eq120 : goal.returns-then-b-eq120
returns-then-b-eq120 c = (simp tail_part at c.hex_escape.ensures) ∙ sym (escape_at c.args.m c.args.s.now (omega arith) ∙ simp (no_letter (get_or c.args.s.now 0 0) (sym c.simple.ensures ∙ c.in_default.is), eq-eqb (get_or c.args.s.now 0 0) 0x78 c.if-b-eq120.true))

pub returns-then-b-eq117 : goal.returns-then-b-eq117
returns-then-b-eq117 c = (simp tail_part at c.unicode_escape.ensures) ∙ sym (escape_at c.args.m c.args.s.now (omega arith) ∙ simp (no_letter (get_or c.args.s.now 0 0) (sym c.simple.ensures ∙ c.in_default.is), ne_eqb (get_or c.args.s.now 0 0) 0x78 c.if-b-eq120.false, eq-eqb (get_or c.args.s.now 0 0) 0x75 c.if-b-eq117.true))

pub returns : goal.returns
returns c = c.invalid.ensures ∙ ap (λ (k : ℕ). Refused (invalid_escape UnknownLetter k)) c.char_len.ensures ∙ sym (escape_at c.args.m c.args.s.now (omega arith) ∙ simp (no_letter (get_or c.args.s.now 0 0) (sym c.simple.ensures ∙ c.in_default.is), ne_eqb (get_or c.args.s.now 0 0) 0x78 c.if-b-eq120.false, ne_eqb (get_or c.args.s.now 0 0) 0x75 c.if-b-eq117.false))

use native.Mathlib.Omega.{arith}
use mathlib.Core.Bool.{Bool, cond}
use mathlib.Core.Path.{◌∙◌, ap, sym}
use Rattle.names.proofs.NearLaws.{near_char}
use Rattle.names.specs.Characters.{char_if, ident_char}
use Rattle.text.specs.Utf8.{char_len}
use Rattle.names.proofs.table_chars.char_if.Goals as goal

pub returns-then-n-ne0 : goal.returns-then-n-ne0
returns-then-n-ne0 c = sym (near_char (ident_char c.args.class) c.args.s.now _ (sym c.near_if-n.ensures) (omega (arith, c.if-n-ne0.true)))

pub returns-then-is_ident_char : goal.returns-then-is_ident_char
unfolding char_if
returns-then-is_ident_char c = c.char_len.ensures ∙ sym (ap (λ (t : Bool). cond t (char_len c.args.s.now) 0) (ap (ident_char c.args.class) (sym c.code_point.ensures) ∙ sym c.is_ident_char.ensures ∙ c.if-is_ident_char.true))

pub returns : goal.returns
unfolding char_if
returns c = sym (ap (λ (t : Bool). cond t (char_len c.args.s.now) 0) (ap (ident_char c.args.class) (sym c.code_point.ensures) ∙ sym c.is_ident_char.ensures ∙ c.if-is_ident_char.false))

use mathlib.Core.Bool.{Bool, cond}
use mathlib.Core.Path.{◌∙◌, ap, sym}
use Rattle.names.specs.Characters.{char_if, ident_char, near}
use Rattle.text.specs.Utf8.{char_len}
use Rattle.names.proofs.characters.wide_near_if.Goals as goal

pub returns-then-is_near : goal.returns-then-is_near
unfolding char_if
returns-then-is_near c = c.char_len.ensures ∙ sym (ap (λ (t : Bool). cond t (char_len c.args.s.now) 0) (ap (near (ident_char c.args.class)) (sym c.code_point.ensures) ∙ sym c.is_near.ensures ∙ c.if-is_near.true))

pub returns : goal.returns
unfolding char_if
returns c = sym (ap (λ (t : Bool). cond t (char_len c.args.s.now) 0) (ap (near (ident_char c.args.class)) (sym c.code_point.ensures) ∙ sym c.is_near.ensures ∙ c.if-is_near.false))

use Prim.Native.Nat.{ℕ}
use mathlib.Core.Bool.{Bool, cond}
use mathlib.Core.Path.{sym, ap, ◌∙◌}
use lib.Dec.{ltb}
use Rattle.text.proofs.NameClasses.{usual_next}
use Rattle.text.specs.Ahead.{char_if, next_ahead}
use Rattle.text.specs.Classes.{ident_next}
use Rattle.text.specs.Utf8.{char_len}
use Rattle.text.proofs.ahead.is_wide_next.Goals as goal

pub returns-then-is_usual : goal.returns-then-is_usual
unfolding next_ahead char_if
returns-then-is_usual c = ap (λ (n : ℕ). ltb 0 n) c.char_len.ensures ∙ sym (ap (λ (t : Bool). ltb 0 (cond t (char_len c.args.s.now) 0)) (ap ident_next (sym c.code_point-c.ensures) ∙ usual_next _ (sym c.is_usual.ensures ∙ c.if-is_usual.true)))

pub returns-then-is_ident_next_char : goal.returns-then-is_ident_next_char
unfolding next_ahead char_if
returns-then-is_ident_next_char c = ap (λ (n : ℕ). ltb 0 n) c.char_len-then-is_ident_next_char.ensures ∙ sym (ap (λ (t : Bool). ltb 0 (cond t (char_len c.args.s.now) 0)) (ap ident_next (sym c.code_point-c.ensures) ∙ sym c.is_ident_next_char.ensures ∙ c.if-is_ident_next_char.true))

pub returns : goal.returns
unfolding next_ahead char_if
returns c = sym (ap (λ (t : Bool). ltb 0 (cond t (char_len c.args.s.now) 0)) (ap ident_next (sym c.code_point-c.ensures) ∙ sym c.is_ident_next_char.ensures ∙ c.if-is_ident_next_char.false))

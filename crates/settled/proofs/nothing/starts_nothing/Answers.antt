use Prim.Native.Nat.{ℕ}
use mathlib.Core.Path.{◌∙◌, ap, sym}
use lib.Dec.{eqb}
use Rattle.settled.proofs.CodeLaws.{nothing_cut, nothing_shape, nothing_word}
use Rattle.settled.proofs.nothing.starts_nothing.Goals as goal

pub returns-then-char_len-eq0 : goal.returns-then-char_len-eq0
returns-then-char_len-eq0 c = sym (nothing_cut _ (sym c.char_len.ensures ∙ c.if-char_len-eq0.true))

pub returns-then-not-is_word : goal.returns-then-not-is_word
returns-then-not-is_word c = sym (nothing_shape _ _ _ _ _ c.peek.ensures c.peek-2.ensures c.peek-3.ensures c.shape_of-shape.ensures (sym c.is_word.ensures ∙ c.if-not-is_word.true))

pub returns : goal.returns
returns c = ap (λ (n : ℕ). eqb n 0) c.first_len.ensures ∙ sym (nothing_word _ _ _ _ _ (λ e. c.if-char_len-eq0.false (c.char_len.ensures ∙ e)) c.peek.ensures c.peek-2.ensures c.peek-3.ensures c.shape_of-shape.ensures (sym c.is_word.ensures ∙ c.if-not-is_word.false))

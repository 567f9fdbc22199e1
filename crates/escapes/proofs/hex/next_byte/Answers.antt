use mathlib.Core.Path.{◌∙◌, sym}
use borrow.Author.Tests.{eq-eqb, ne_eqb}
use Rattle.escapes.proofs.EscapeLaws.{next_short}
use Rattle.escapes.specs.Escapes.{next_byte}
use Rattle.text.proofs.Lists.{tail_part}
use Rattle.escapes.proofs.hex.next_byte.Goals as goal

pub returns-then-t-lt2 : goal.returns-then-t-lt2
returns-then-t-lt2 c = c.invalid.ensures ∙ sym (next_short c.args.at c.args.t.now c.if-t-lt2.true)

pub returns-then-t-ne92 : goal.returns-then-t-ne92
unfolding next_byte
returns-then-t-ne92 c = c.invalid-then-t-ne92.ensures ∙ simp (ne_eqb _ _ c.if-t-ne92.true)

pub returns-then-t-ne120 : goal.returns-then-t-ne120
unfolding next_byte
returns-then-t-ne120 c = c.invalid-then-t-ne120.ensures ∙ simp (eq-eqb _ _ c.if-t-ne92.false, ne_eqb _ _ c.if-t-ne120.true)

pub returns : goal.returns
unfolding next_byte
returns c = (simp tail_part at c.decode_ascii_escape.ensures) ∙ simp (eq-eqb _ _ c.if-t-ne92.false, eq-eqb _ _ c.if-t-ne120.false)

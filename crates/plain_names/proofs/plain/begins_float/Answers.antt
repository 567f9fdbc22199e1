use mathlib.Core.Path.{◌∙◌, sym}
use borrow.Author.Tests.{ne_eqb}
use Rattle.plain_names.proofs.PartLaws.{float_i, float_n, no_float}
use Rattle.plain_names.proofs.plain.begins_float.Goals as goal

pub returns-then-s-eq105 : goal.returns-then-s-eq105
returns-then-s-eq105 c = c.starts_with3.ensures ∙ sym (float_i c.args.s.now c.if-s-eq105.true)

pub returns-then-s-eq78 : goal.returns-then-s-eq78
returns-then-s-eq78 c = c.starts_with3-then-s-eq78.ensures ∙ sym (float_n c.args.s.now c.if-s-eq78.true)

pub returns : goal.returns
returns c = sym (no_float c.args.s.now (ne_eqb _ _ c.if-s-eq105.false) (ne_eqb _ _ c.if-s-eq78.false))

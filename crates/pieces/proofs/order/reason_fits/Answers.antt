use Rattle.pieces.specs.Orders.{reason_fits}
use borrow.Author.Tests.{eq-eqb, ne_eqb}
use Rattle.text.proofs.Choices.{or_false}
use mathlib.Core.Path.{sym, ◌∙◌}
use Rattle.pieces.proofs.order.reason_fits.Goals as goal

pub returns-then-r-eq-INVALID_ESCAPE : goal.returns-then-r-eq-INVALID_ESCAPE
unfolding reason_fits
returns-then-r-eq-INVALID_ESCAPE c = c.is_within.ensures ∙ sym (simp (eq-eqb _ _ c.if-r-eq-INVALID_ESCAPE.true, or_false))

pub returns-then-r-eq0 : goal.returns-then-r-eq0
unfolding reason_fits
returns-then-r-eq0 c = simp (ne_eqb _ _ c.if-r-eq-INVALID_ESCAPE.false, eq-eqb _ _ c.if-r-eq0.true)

pub returns : goal.returns
unfolding reason_fits
returns c = simp (ne_eqb _ _ c.if-r-eq-INVALID_ESCAPE.false, ne_eqb _ _ c.if-r-eq0.false)

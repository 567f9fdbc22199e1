use Rattle.pieces.specs.Orders.{refusal_fits}
use borrow.Author.Tests.{eq-eqb, ne_eqb}
use mathlib.Core.Path.{sym, ◌∙◌}
use Rattle.pieces.proofs.order.refusal_fits.Goals as goal

pub returns-then-is_none : goal.returns-then-is_none
unfolding refusal_fits
returns-then-is_none c = simp (sym c.is_none.ensures ∙ c.if-is_none.true)

pub returns-then-not-is_given : goal.returns-then-not-is_given
unfolding refusal_fits
returns-then-not-is_given c = simp (sym c.is_none.ensures ∙ c.if-is_none.false, sym c.is_given.ensures ∙ c.if-not-is_given.true)

pub returns-then-a-ne0 : goal.returns-then-a-ne0
unfolding refusal_fits
returns-then-a-ne0 c = simp (sym c.is_none.ensures ∙ c.if-is_none.false, sym c.is_given.ensures ∙ c.if-not-is_given.false, ne_eqb _ _ c.if-a-ne0.true)

pub returns : goal.returns
unfolding refusal_fits
returns c = c.is_clear.ensures ∙ sym (simp (sym c.is_none.ensures ∙ c.if-is_none.false, sym c.is_given.ensures ∙ c.if-not-is_given.false, eq-eqb _ _ c.if-a-ne0.false))

use Rattle.pieces.specs.Orders.{in_order}
use borrow.Author.Tests.{le-leb, lt-leb}
use mathlib.Core.Path.{sym, ◌∙◌}
use Rattle.pieces.proofs.order.in_order.Goals as goal

pub returns-then-a-gt-MOST_TAKEN : goal.returns-then-a-gt-MOST_TAKEN
unfolding in_order
returns-then-a-gt-MOST_TAKEN c = simp (lt-leb _ _ c.if-a-gt-MOST_TAKEN.true)

pub returns-then-not-kept_fits : goal.returns-then-not-kept_fits
unfolding in_order
returns-then-not-kept_fits c = simp (le-leb _ _ c.if-a-gt-MOST_TAKEN.false, sym c.kept_fits.ensures ∙ c.if-not-kept_fits.true)

pub returns-then-not-open_fits : goal.returns-then-not-open_fits
unfolding in_order
returns-then-not-open_fits c = simp (le-leb _ _ c.if-a-gt-MOST_TAKEN.false, sym c.kept_fits.ensures ∙ c.if-not-kept_fits.false, sym c.open_fits.ensures ∙ c.if-not-open_fits.true)

pub returns : goal.returns
unfolding in_order
returns c = c.refusal_fits.ensures ∙ sym (simp (le-leb _ _ c.if-a-gt-MOST_TAKEN.false, sym c.kept_fits.ensures ∙ c.if-not-kept_fits.false, sym c.open_fits.ensures ∙ c.if-not-open_fits.false))

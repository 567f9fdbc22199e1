use Rattle.pieces.proofs.OrderLaws.{last_of_five}
use Rattle.pieces.specs.Orders.{kept_fits}
use Rattle.pieces.proofs.OrderLaws.{kept_over, former_over, former_within}
use borrow.Author.Tests.{le-leb, lt-leb}
use mathlib.Core.Path.{sym, ◌∙◌}
use Rattle.pieces.proofs.order.kept_fits.Goals as goal

pub returns-then-a-gt3 : goal.returns-then-a-gt3
unfolding kept_fits
returns-then-a-gt3 c = simp (lt-leb _ _ c.if-a-gt3.true)

pub returns-then-a : goal.returns-then-a
unfolding kept_fits
returns-then-a c = simp (le-leb _ _ c.if-a-gt3.false, lt-leb _ _ c.if-a.true)

pub returns-then-a-gt-MOST_HELD : goal.returns-then-a-gt-MOST_HELD
unfolding kept_fits
returns-then-a-gt-MOST_HELD c = simp (le-leb _ _ c.if-a-gt3.false, le-leb _ _ c.if-a.false, lt-leb _ _ c.if-a-gt-MOST_HELD.true)

pub returns-then-a-2 : goal.returns-then-a-2
unfolding kept_fits
returns-then-a-2 c = simp (le-leb _ _ c.if-a-gt3.false, le-leb _ _ c.if-a.false, le-leb _ _ c.if-a-gt-MOST_HELD.false, kept_over c.args.a.former _ _ c.if-a-2.true)

pub returns-then-a-3 : goal.returns-then-a-3
unfolding kept_fits
returns-then-a-3 c = simp (le-leb _ _ c.if-a-gt3.false, le-leb _ _ c.if-a.false, le-leb _ _ c.if-a-gt-MOST_HELD.false, former_over c.args.a.former c.args.a.kept c.args.a.taken c.if-a-3.true)

pub returns-then-is_clear : goal.returns-then-is_clear
unfolding kept_fits
returns-then-is_clear c = simp (le-leb _ _ c.if-a-gt3.false, le-leb _ _ c.if-a.false, le-leb _ _ c.if-a-gt-MOST_HELD.false, former_within c.args.a.former c.args.a.kept c.args.a.taken c.if-a-2.false c.if-a-3.false, sym c.is_clear.ensures ∙ c.if-is_clear.true)

pub returns : goal.returns
unfolding kept_fits
returns c =
    last_of_five _ _ _ _ _ _ (le-leb _ _ c.if-a-gt3.false) (le-leb _ _ c.if-a.false) (le-leb _ _ c.if-a-gt-MOST_HELD.false) (former_within c.args.a.former c.args.a.kept c.args.a.taken c.if-a-2.false c.if-a-3.false) (sym c.is_clear.ensures ∙ c.if-is_clear.false)

use Rattle.text.specs.Classes.{within}
use lib.Dec.{eqb}
use mathlib.Core.Bool.{true, not, ◌||◌}
use Rattle.pieces.specs.Orders.{is_given}
use Rattle.pieces.proofs.OrderLaws.{given_thirty, given_within}
use borrow.Author.Tests.{le-leb, lt-leb, ne_eqb}
use mathlib.Core.Path.{◌≡◌, ap, sym, ◌∙◌}
use Rattle.pieces.proofs.order.is_given.Goals as goal
use Rattle.pieces.proofs.order.is_given.Goals.{then-not-is_within+else-r-ne-ENTRY_TOO_LONG, else-not-is_within}

pub returns-then-r-ne-ENTRY_TOO_LONG : goal.returns-then-r-ne-ENTRY_TOO_LONG
unfolding is_given
returns-then-r-ne-ENTRY_TOO_LONG c = simp (sym c.is_within.ensures ∙ c.if-not-is_within.true, ne_eqb _ _ c.if-r-ne-ENTRY_TOO_LONG.true)

pub returns-then-taken-r : goal.returns-then-taken-r
unfolding is_given
returns-then-taken-r c =
    let n = c.args.r.number in
    let h : (within 1 21 n || eqb n 30) ≡ true = elim c.if-not-is_within.branch [
      | then-not-is_within+else-r-ne-ENTRY_TOO_LONG w ↦ given_thirty n w.if-r-ne-ENTRY_TOO_LONG.false
      | else-not-is_within w ↦ given_within n _ c.is_within.ensures (ap not w.if-not-is_within.false)
    ] in
    simp (h, lt-leb _ _ c.if-taken-r.true)

pub returns : goal.returns
unfolding is_given
returns c =
    let n = c.args.r.number in
    let h : (within 1 21 n || eqb n 30) ≡ true = elim c.if-not-is_within.branch [
      | then-not-is_within+else-r-ne-ENTRY_TOO_LONG w ↦ given_thirty n w.if-r-ne-ENTRY_TOO_LONG.false
      | else-not-is_within w ↦ given_within n _ c.is_within.ensures (ap not w.if-not-is_within.false)
    ] in
    c.reason_fits.ensures ∙ sym (simp (h, le-leb _ _ c.if-taken-r.false))

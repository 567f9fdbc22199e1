use borrow.Author.Tests.{le-leb, lt-leb}
use Rattle.text.specs.Judged.{place_fits}
use Rattle.text.proofs.judge.place_fits.Goals as goal

pub returns-then-text-place : goal.returns-then-text-place
unfolding place_fits
returns-then-text-place c = simp (lt-leb _ _ c.if-text-place.true)

pub returns : goal.returns
unfolding place_fits
returns c = simp (le-leb _ _ c.if-text-place.false, c.is_within.ensures, c.peek.ensures)

use borrow.Author.Tests.{eq-eqb, ne_eqb}
use Rattle.pieces.specs.inner.Judges.{gives_of}
use Rattle.pieces.proofs.judge.gives.Goals as goal

pub returns-then-count-eq0 : goal.returns-then-count-eq0
unfolding gives_of
returns-then-count-eq0 c = simp (eq-eqb _ _ c.if-count-eq0.true)

pub returns : goal.returns
unfolding gives_of
returns c = simp (ne_eqb _ _ c.if-count-eq0.false)

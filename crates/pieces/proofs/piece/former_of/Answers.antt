use borrow.Author.Tests.{eq-eqb, ne_eqb}
use Rattle.pieces.proofs.piece.former_of.Goals as goal

pub returns-then-count-eq0 : goal.returns-then-count-eq0
returns-then-count-eq0 c = simp (eq-eqb _ _ c.if-count-eq0.true)

pub returns : goal.returns
returns c = simp (ne_eqb _ _ c.if-count-eq0.false)

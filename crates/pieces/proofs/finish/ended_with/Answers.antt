use borrow.Author.Tests.{eq-eqb, ne_eqb}
use Rattle.pieces.proofs.finish.ended_with.Goals as goal

pub returns-then-refusal-eq0 : goal.returns-then-refusal-eq0
returns-then-refusal-eq0 c = simp (eq-eqb _ _ c.if-refusal-eq0.true)

pub returns : goal.returns
returns c = simp (ne_eqb _ _ c.if-refusal-eq0.false)

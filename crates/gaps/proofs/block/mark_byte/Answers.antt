use borrow.Author.Tests.{eq-eqb, ne_eqb}
use Rattle.gaps.specs.Opens.{unpaired}
use Rattle.gaps.proofs.block.mark_byte.Goals as goal

pub returns-then-b-eq42 : goal.returns-then-b-eq42
unfolding unpaired
returns-then-b-eq42 c = simp (eq-eqb _ _ c.if-b-eq42.true)

pub returns-then-b-eq47 : goal.returns-then-b-eq47
unfolding unpaired
returns-then-b-eq47 c = simp (ne_eqb _ _ c.if-b-eq42.false, eq-eqb _ _ c.if-b-eq47.true)

pub returns : goal.returns
unfolding unpaired
returns c = simp (ne_eqb _ _ c.if-b-eq42.false, ne_eqb _ _ c.if-b-eq47.false)

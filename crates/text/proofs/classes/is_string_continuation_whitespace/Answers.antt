use borrow.Author.Tests.{eq-eqb, ne_eqb}
use Rattle.text.specs.Classes.{continuation_blank}
use Rattle.text.proofs.classes.is_string_continuation_whitespace.Goals as goal

pub returns-then-b-eq32 : goal.returns-then-b-eq32
unfolding continuation_blank
returns-then-b-eq32 c = simp (eq-eqb _ _ c.if-b-eq32.true)

pub returns-then-b-eq9 : goal.returns-then-b-eq9
unfolding continuation_blank
returns-then-b-eq9 c = simp (ne_eqb _ _ c.if-b-eq32.false, eq-eqb _ _ c.if-b-eq9.true)

pub returns-then-b-eq10 : goal.returns-then-b-eq10
unfolding continuation_blank
returns-then-b-eq10 c = simp (ne_eqb _ _ c.if-b-eq32.false, ne_eqb _ _ c.if-b-eq9.false, eq-eqb _ _ c.if-b-eq10.true)

pub returns-then-b-eq13 : goal.returns-then-b-eq13
unfolding continuation_blank
returns-then-b-eq13 c = simp (ne_eqb _ _ c.if-b-eq32.false, ne_eqb _ _ c.if-b-eq9.false, ne_eqb _ _ c.if-b-eq10.false, eq-eqb _ _ c.if-b-eq13.true)

pub returns : goal.returns
unfolding continuation_blank
returns c = simp (ne_eqb _ _ c.if-b-eq32.false, ne_eqb _ _ c.if-b-eq9.false, ne_eqb _ _ c.if-b-eq10.false, ne_eqb _ _ c.if-b-eq13.false)

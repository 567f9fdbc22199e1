use borrow.Author.Tests.{eq-eqb, ne_eqb}
use Rattle.quiet.proofs.bytes.is_low.Goals as goal

pub returns-then-byte-eq32 : goal.returns-then-byte-eq32
returns-then-byte-eq32 c = simp (eq-eqb _ _ c.if-byte-eq32.true)

pub returns-then-byte-eq9 : goal.returns-then-byte-eq9
returns-then-byte-eq9 c = simp (ne_eqb _ _ c.if-byte-eq32.false, eq-eqb _ _ c.if-byte-eq9.true)

pub returns-then-byte-eq10 : goal.returns-then-byte-eq10
returns-then-byte-eq10 c = simp (ne_eqb _ _ c.if-byte-eq32.false, ne_eqb _ _ c.if-byte-eq9.false, eq-eqb _ _ c.if-byte-eq10.true)

pub returns-then-byte-eq13 : goal.returns-then-byte-eq13
returns-then-byte-eq13 c = simp (ne_eqb _ _ c.if-byte-eq32.false, ne_eqb _ _ c.if-byte-eq9.false, ne_eqb _ _ c.if-byte-eq10.false, eq-eqb _ _ c.if-byte-eq13.true)

pub returns-then-byte-eq44 : goal.returns-then-byte-eq44
returns-then-byte-eq44 c = simp (ne_eqb _ _ c.if-byte-eq32.false, ne_eqb _ _ c.if-byte-eq9.false, ne_eqb _ _ c.if-byte-eq10.false, ne_eqb _ _ c.if-byte-eq13.false, eq-eqb _ _ c.if-byte-eq44.true)

pub returns-then-byte-eq58 : goal.returns-then-byte-eq58
returns-then-byte-eq58 c = simp (ne_eqb _ _ c.if-byte-eq32.false, ne_eqb _ _ c.if-byte-eq9.false, ne_eqb _ _ c.if-byte-eq10.false, ne_eqb _ _ c.if-byte-eq13.false, ne_eqb _ _ c.if-byte-eq44.false, eq-eqb _ _ c.if-byte-eq58.true)

pub returns-then-byte-eq40 : goal.returns-then-byte-eq40
returns-then-byte-eq40 c = simp (ne_eqb _ _ c.if-byte-eq32.false, ne_eqb _ _ c.if-byte-eq9.false, ne_eqb _ _ c.if-byte-eq10.false, ne_eqb _ _ c.if-byte-eq13.false, ne_eqb _ _ c.if-byte-eq44.false, ne_eqb _ _ c.if-byte-eq58.false, eq-eqb _ _ c.if-byte-eq40.true)

pub returns-then-byte-eq41 : goal.returns-then-byte-eq41
returns-then-byte-eq41 c = simp (ne_eqb _ _ c.if-byte-eq32.false, ne_eqb _ _ c.if-byte-eq9.false, ne_eqb _ _ c.if-byte-eq10.false, ne_eqb _ _ c.if-byte-eq13.false, ne_eqb _ _ c.if-byte-eq44.false, ne_eqb _ _ c.if-byte-eq58.false, ne_eqb _ _ c.if-byte-eq40.false, eq-eqb _ _ c.if-byte-eq41.true)

pub returns : goal.returns
returns c = simp (ne_eqb _ _ c.if-byte-eq32.false, ne_eqb _ _ c.if-byte-eq9.false, ne_eqb _ _ c.if-byte-eq10.false, ne_eqb _ _ c.if-byte-eq13.false, ne_eqb _ _ c.if-byte-eq44.false, ne_eqb _ _ c.if-byte-eq58.false, ne_eqb _ _ c.if-byte-eq40.false, ne_eqb _ _ c.if-byte-eq41.false)

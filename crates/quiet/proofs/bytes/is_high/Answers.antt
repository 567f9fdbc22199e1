use borrow.Author.Tests.{eq-eqb, ne_eqb}
use Rattle.quiet.proofs.bytes.is_high.Goals as goal

pub returns-then-byte-eq91 : goal.returns-then-byte-eq91
returns-then-byte-eq91 c = simp (eq-eqb _ _ c.if-byte-eq91.true)

pub returns-then-byte-eq93 : goal.returns-then-byte-eq93
returns-then-byte-eq93 c = simp (ne_eqb _ _ c.if-byte-eq91.false, eq-eqb _ _ c.if-byte-eq93.true)

pub returns-then-byte-eq123 : goal.returns-then-byte-eq123
returns-then-byte-eq123 c = simp (ne_eqb _ _ c.if-byte-eq91.false, ne_eqb _ _ c.if-byte-eq93.false, eq-eqb _ _ c.if-byte-eq123.true)

pub returns-then-byte-eq125 : goal.returns-then-byte-eq125
returns-then-byte-eq125 c = simp (ne_eqb _ _ c.if-byte-eq91.false, ne_eqb _ _ c.if-byte-eq93.false, ne_eqb _ _ c.if-byte-eq123.false, eq-eqb _ _ c.if-byte-eq125.true)

pub returns : goal.returns
returns c = simp (ne_eqb _ _ c.if-byte-eq91.false, ne_eqb _ _ c.if-byte-eq93.false, ne_eqb _ _ c.if-byte-eq123.false, ne_eqb _ _ c.if-byte-eq125.false)

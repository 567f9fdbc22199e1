use borrow.Author.Tests.{eq-eqb, ne_eqb}
use Rattle.settled.specs.Bytes.{closes_byte}
use Rattle.settled.proofs.bytes.is_closer.Goals as goal

pub returns-then-b-eq44 : goal.returns-then-b-eq44
unfolding closes_byte
returns-then-b-eq44 c = simp (eq-eqb _ _ c.if-b-eq44.true)

pub returns-then-b-eq58 : goal.returns-then-b-eq58
unfolding closes_byte
returns-then-b-eq58 c = simp (ne_eqb _ _ c.if-b-eq44.false, eq-eqb _ _ c.if-b-eq58.true)

pub returns-then-b-eq40 : goal.returns-then-b-eq40
unfolding closes_byte
returns-then-b-eq40 c = simp (ne_eqb _ _ c.if-b-eq44.false, ne_eqb _ _ c.if-b-eq58.false, eq-eqb _ _ c.if-b-eq40.true)

pub returns-then-b-eq41 : goal.returns-then-b-eq41
unfolding closes_byte
returns-then-b-eq41 c = simp (ne_eqb _ _ c.if-b-eq44.false, ne_eqb _ _ c.if-b-eq58.false, ne_eqb _ _ c.if-b-eq40.false, eq-eqb _ _ c.if-b-eq41.true)

pub returns-then-b-eq91 : goal.returns-then-b-eq91
unfolding closes_byte
returns-then-b-eq91 c = simp (ne_eqb _ _ c.if-b-eq44.false, ne_eqb _ _ c.if-b-eq58.false, ne_eqb _ _ c.if-b-eq40.false, ne_eqb _ _ c.if-b-eq41.false, eq-eqb _ _ c.if-b-eq91.true)

pub returns-then-b-eq93 : goal.returns-then-b-eq93
unfolding closes_byte
returns-then-b-eq93 c = simp (ne_eqb _ _ c.if-b-eq44.false, ne_eqb _ _ c.if-b-eq58.false, ne_eqb _ _ c.if-b-eq40.false, ne_eqb _ _ c.if-b-eq41.false, ne_eqb _ _ c.if-b-eq91.false, eq-eqb _ _ c.if-b-eq93.true)

pub returns-then-b-eq123 : goal.returns-then-b-eq123
unfolding closes_byte
returns-then-b-eq123 c = simp (ne_eqb _ _ c.if-b-eq44.false, ne_eqb _ _ c.if-b-eq58.false, ne_eqb _ _ c.if-b-eq40.false, ne_eqb _ _ c.if-b-eq41.false, ne_eqb _ _ c.if-b-eq91.false, ne_eqb _ _ c.if-b-eq93.false, eq-eqb _ _ c.if-b-eq123.true)

pub returns-then-b-eq125 : goal.returns-then-b-eq125
unfolding closes_byte
returns-then-b-eq125 c = simp (ne_eqb _ _ c.if-b-eq44.false, ne_eqb _ _ c.if-b-eq58.false, ne_eqb _ _ c.if-b-eq40.false, ne_eqb _ _ c.if-b-eq41.false, ne_eqb _ _ c.if-b-eq91.false, ne_eqb _ _ c.if-b-eq93.false, ne_eqb _ _ c.if-b-eq123.false, eq-eqb _ _ c.if-b-eq125.true)

pub returns-then-b-eq34 : goal.returns-then-b-eq34
unfolding closes_byte
returns-then-b-eq34 c = simp (ne_eqb _ _ c.if-b-eq44.false, ne_eqb _ _ c.if-b-eq58.false, ne_eqb _ _ c.if-b-eq40.false, ne_eqb _ _ c.if-b-eq41.false, ne_eqb _ _ c.if-b-eq91.false, ne_eqb _ _ c.if-b-eq93.false, ne_eqb _ _ c.if-b-eq123.false, ne_eqb _ _ c.if-b-eq125.false, eq-eqb _ _ c.if-b-eq34.true)

pub returns-then-b-eq39 : goal.returns-then-b-eq39
unfolding closes_byte
returns-then-b-eq39 c = simp (ne_eqb _ _ c.if-b-eq44.false, ne_eqb _ _ c.if-b-eq58.false, ne_eqb _ _ c.if-b-eq40.false, ne_eqb _ _ c.if-b-eq41.false, ne_eqb _ _ c.if-b-eq91.false, ne_eqb _ _ c.if-b-eq93.false, ne_eqb _ _ c.if-b-eq123.false, ne_eqb _ _ c.if-b-eq125.false, ne_eqb _ _ c.if-b-eq34.false, eq-eqb _ _ c.if-b-eq39.true)

pub returns : goal.returns
unfolding closes_byte
returns c = simp (ne_eqb _ _ c.if-b-eq44.false, ne_eqb _ _ c.if-b-eq58.false, ne_eqb _ _ c.if-b-eq40.false, ne_eqb _ _ c.if-b-eq41.false, ne_eqb _ _ c.if-b-eq91.false, ne_eqb _ _ c.if-b-eq93.false, ne_eqb _ _ c.if-b-eq123.false, ne_eqb _ _ c.if-b-eq125.false, ne_eqb _ _ c.if-b-eq34.false, ne_eqb _ _ c.if-b-eq39.false)

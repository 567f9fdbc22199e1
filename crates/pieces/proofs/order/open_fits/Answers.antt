use borrow.Author.Tests.{le-leb, lt-leb, eq-eqb, ne_eqb}
use Rattle.pieces.proofs.order.open_fits.Goals as goal

pub returns-then-taken-level : goal.returns-then-taken-level
returns-then-taken-level c = rw c.in-Block.is (simp (lt-leb _ _ c.if-taken-level.true))

pub returns-then-last-eq0 : goal.returns-then-last-eq0
returns-then-last-eq0 c = rw c.in-Block.is (simp (le-leb _ _ c.if-taken-level.false, eq-eqb _ _ c.if-last-eq0.true))

pub returns-then-last-eq42 : goal.returns-then-last-eq42
returns-then-last-eq42 c = rw c.in-Block.is (simp (le-leb _ _ c.if-taken-level.false, ne_eqb _ _ c.if-last-eq0.false, eq-eqb _ _ c.if-last-eq42.true))

pub returns-then-last-eq47 : goal.returns-then-last-eq47
returns-then-last-eq47 c = rw c.in-Block.is (simp (le-leb _ _ c.if-taken-level.false, ne_eqb _ _ c.if-last-eq0.false, ne_eqb _ _ c.if-last-eq42.false, eq-eqb _ _ c.if-last-eq47.true))

pub returns-else-last-eq47 : goal.returns-else-last-eq47
returns-else-last-eq47 c = rw c.in-Block.is (simp (le-leb _ _ c.if-taken-level.false, ne_eqb _ _ c.if-last-eq0.false, ne_eqb _ _ c.if-last-eq42.false, ne_eqb _ _ c.if-last-eq47.false))

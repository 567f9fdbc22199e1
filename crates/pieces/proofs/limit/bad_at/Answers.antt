use mathlib.Core.Path.{refl}
use native.Mathlib.Omega.{arith}
use Rattle.pieces.proofs.limit.bad_at.Goals as goal

pub returns-then-k-part : goal.returns-then-k-part
returns-then-k-part c = rw c.in-Bad.is (omega (arith, c.if-k-part.true))

pub returns-else-k-part : goal.returns-else-k-part
returns-else-k-part c = rw c.in-Bad.is refl

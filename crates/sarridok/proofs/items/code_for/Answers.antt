use native.Mathlib.Nat.{add-zero}
use mathlib.Core.Path.{sym}
use Rattle.sarridok.proofs.items.code_for.Goals as goal

pub returns-then-minus : goal.returns-then-minus
returns-then-minus c = rw c.if-minus.true

pub returns : goal.returns
returns c = rw c.if-minus.false (sym (add-zero _))

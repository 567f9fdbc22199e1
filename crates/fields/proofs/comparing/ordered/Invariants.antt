use mathlib.Core.Path.{◌≡◌}
use lib.ListN.{drop}
use Rattle.fields.specs.inner.Order.{order_of}
use Rattle.fields.proofs.comparing.ordered.Given as goal

abbrev pub invariant-loop-i : goal.invariant-loop-i
invariant-loop-i l = order_of (drop l.i l.a) (drop l.i l.b) ≡ order_of l.a l.b

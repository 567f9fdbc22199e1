use Prim.Native.Nat.{◌-◌}
use Rattle.fields.specs.inner.Order.{SameEntries}
use Rattle.fields.proofs.again.sift.Given as goal

abbrev pub invariant-loop-p : goal.invariant-loop-p
invariant-loop-p l = SameEntries l.initial.fields l.fields

abbrev pub decreases-loop-p : goal.decreases-loop-p
decreases-loop-p l = l.n - l.p

use Rattle.fields.specs.inner.Order.{SameEntries}
use Rattle.fields.proofs.again.heap.Given as goal

abbrev pub invariant-loop-p : goal.invariant-loop-p
invariant-loop-p l = SameEntries l.initial.fields l.fields

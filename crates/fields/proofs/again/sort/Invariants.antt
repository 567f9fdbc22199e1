use Rattle.fields.specs.inner.Order.{SameEntries}
use Rattle.fields.proofs.again.sort.Given as goal

abbrev pub invariant-loop-n : goal.invariant-loop-n
invariant-loop-n l = SameEntries l.initial.fields l.fields

use native.Mathlib.Omega.{arith}
use Rattle.fields.proofs.EntryLaws.{entries_same, entries_twice, named_left}
use Rattle.fields.proofs.again.heap.Goals as goal

pub loop-p-init : goal.loop-p-init
loop-p-init c = entries_same _

pub sift-requires : goal.sift-requires
sift-requires c = (omega (arith, c.loop-p.invariant.as_many), named_left c.args.text.now c.args.tape.now c.args.fields.now c.loop-p.fields c.requires c.loop-p.invariant)

pub loop-p-preserved : goal.loop-p-preserved
loop-p-preserved c = entries_twice _ _ _ c.loop-p.invariant c.sift.ensures

use native.Mathlib.Omega.{arith}
use Rattle.fields.proofs.EntryLaws.{entries_moved, entries_same, entries_twice, named_left}
use Rattle.fields.proofs.again.sort.Goals as goal

pub loop-n-init : goal.loop-n-init
loop-n-init c = entries_same _

pub sift-requires : goal.sift-requires
sift-requires c = (omega (arith, c.loop-n.auto.n, c.loop-n-test.true, c.loop-n.invariant.as_many, c.swap.ensures.len), named_left c.args.text.now c.args.tape.now c.args.fields.now _ c.requires (entries_moved _ _ _ (entries_twice _ _ _ c.heap.ensures c.loop-n.invariant) c.swap.ensures.permutation))

pub loop-n-preserved : goal.loop-n-preserved
loop-n-preserved c = entries_twice _ _ _ (entries_moved _ _ _ c.loop-n.invariant c.swap.ensures.permutation) c.sift.ensures

pub returns : goal.returns
returns c = entries_twice _ _ _ c.heap.ensures c.loop-n.invariant

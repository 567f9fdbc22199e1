use native.Mathlib.Omega.{arith}
use Rattle.fields.proofs.EntryLaws.{entries_moved, entries_same, named_at, named_left}
use Rattle.fields.proofs.again.sift.Goals as goal

pub loop-p-init : goal.loop-p-init
loop-p-init c = entries_same _

pub below-q-requires : goal.below-q-requires
below-q-requires c = (omega (arith, c.loop-p-test.true), omega (arith, c.requires.0, c.loop-p.invariant.as_many), named_left c.args.text.now c.args.tape.now c.args.fields.now c.loop-p.fields c.requires.1 c.loop-p.invariant)

pub comes_before-requires : goal.comes_before-requires
comes_before-requires c = (named_at c.args.text.now c.args.tape.now c.loop-p.fields (named_left c.args.text.now c.args.tape.now c.args.fields.now c.loop-p.fields c.requires.1 c.loop-p.invariant) _ (omega (arith, c.below-q.ensures.0, c.below-q.ensures.1, c.requires.0, c.loop-p.invariant.as_many)), named_at c.args.text.now c.args.tape.now c.loop-p.fields (named_left c.args.text.now c.args.tape.now c.args.fields.now c.loop-p.fields c.requires.1 c.loop-p.invariant) _ (omega (arith, c.below-q.ensures.0, c.below-q.ensures.1, c.requires.0, c.loop-p.invariant.as_many)))

pub loop-p-preserved : goal.loop-p-preserved
loop-p-preserved c = search (entries_moved)

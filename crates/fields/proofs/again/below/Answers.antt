use native.Mathlib.Omega.{arith}
use Rattle.fields.proofs.EntryLaws.{named_at}
use Rattle.fields.proofs.again.below.Goals as goal

pub comes_before-requires : goal.comes_before-requires
comes_before-requires c = (named_at c.args.text.now c.args.tape.now c.args.fields.now c.requires.2 _ (omega arith), named_at c.args.text.now c.args.tape.now c.args.fields.now c.requires.2 _ (omega arith))

use Rattle.lent.proofs.CopyLaws.{over_front}
use Rattle.lent.proofs.copies.copy.Goals as goal

pub returns : goal.returns
returns c = over_front c.args.from.now c.args.to.now _ c.min-n.result c.min-n.ensures c.copy_from_slice.ensures.after

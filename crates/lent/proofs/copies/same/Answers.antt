use mathlib.Core.Path.{◌∙◌}
use Rattle.lent.proofs.CopyLaws.{same_front}
use Rattle.lent.proofs.copies.same.Goals as goal

pub returns : goal.returns
returns c = c.starts_with.ensures.value ∙ same_front c.args.s.now c.args.others.now

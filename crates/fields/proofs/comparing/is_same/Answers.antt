use mathlib.Core.Path.{◌∙◌}
use Rattle.fields.proofs.SameLaws.{same_each}
use Rattle.fields.proofs.comparing.is_same.Goals as goal

pub returns : goal.returns
returns c = c.eq.ensures ∙ same_each c.args.a.now c.args.b.now

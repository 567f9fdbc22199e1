use mathlib.Core.Path.{◌∙◌, sym}
use Rattle.settled.proofs.CodeLaws.{quoted_early, quoted_late}
use Rattle.settled.proofs.refused.quoted_stays.Goals as goal

pub returns-then-refused-from : goal.returns-then-refused-from
returns-then-refused-from c = sym (quoted_early c.args.p.now c.args.refused c.args.from c.if-refused-from.true)

pub returns : goal.returns
returns c = c.stops_from.ensures ∙ sym (quoted_late c.args.p.now c.args.refused c.args.from c.if-refused-from.false)

use mathlib.Core.Path.{◌∙◌}
use Rattle.cases.proofs.ByteLaws.{length_mark, length_number}
use Rattle.cases.proofs.s.length_of.Goals as goal

pub returns-then-same : goal.returns-then-same
returns-then-same c = length_mark c.args.word.now (c.same.ensures.0 c.if-same.true)

pub returns : goal.returns
returns c = c.decimal_of.ensures ∙ length_number c.args.word.now _ c.same.ensures.1 c.if-same.false

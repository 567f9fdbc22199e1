use mathlib.Core.Path.{sym, ◌∙◌}
use Rattle.names.specs.Classify.{begins_float}
use Rattle.names.proofs.classify.begins_float.Goals as goal

pub returns-then-starts_with3 : goal.returns-then-starts_with3
unfolding begins_float
returns-then-starts_with3 c = simp (sym c.starts_with3.ensures ∙ c.if-starts_with3.true)

pub returns : goal.returns
unfolding begins_float
returns c = simp (sym c.starts_with3.ensures ∙ c.if-starts_with3.false, c.starts_with3-2.ensures)

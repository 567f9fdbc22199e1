use mathlib.Core.Path.{sym, ◌∙◌}
use Rattle.names.specs.Classify.{suffixed}
use Rattle.names.proofs.classify.suffixed_name.Goals as goal

pub returns-then-starts_with3 : goal.returns-then-starts_with3
unfolding suffixed
returns-then-starts_with3 c = simp (sym c.starts_with3.ensures ∙ c.if-starts_with3.true)

pub returns-then-starts_with3-2 : goal.returns-then-starts_with3-2
unfolding suffixed
returns-then-starts_with3-2 c = simp (sym c.starts_with3.ensures ∙ c.if-starts_with3.false, sym c.starts_with3-2.ensures ∙ c.if-starts_with3-2.true)

pub returns : goal.returns
unfolding suffixed
returns c = simp (sym c.starts_with3.ensures ∙ c.if-starts_with3.false, sym c.starts_with3-2.ensures ∙ c.if-starts_with3-2.false)

use Rattle.places.specs.Shown.{hidden}
use mathlib.Core.Path.{sym, ◌∙◌}
use Rattle.places.proofs.shown.is_hidden.Goals as goal

pub returns-then-is_between : goal.returns-then-is_between
unfolding hidden
returns-then-is_between c = simp (sym c.is_between.ensures ∙ c.if-is_between.true)

pub returns-then-is_between-2 : goal.returns-then-is_between-2
unfolding hidden
returns-then-is_between-2 c = simp (sym c.is_between.ensures ∙ c.if-is_between.false, sym c.is_between-2.ensures ∙ c.if-is_between-2.true)

pub returns-then-is_between-3 : goal.returns-then-is_between-3
unfolding hidden
returns-then-is_between-3 c = simp (sym c.is_between.ensures ∙ c.if-is_between.false, sym c.is_between-2.ensures ∙ c.if-is_between-2.false, sym c.is_between-3.ensures ∙ c.if-is_between-3.true)

pub returns : goal.returns
unfolding hidden
returns c = simp (sym c.is_between.ensures ∙ c.if-is_between.false, sym c.is_between-2.ensures ∙ c.if-is_between-2.false, sym c.is_between-3.ensures ∙ c.if-is_between-3.false)

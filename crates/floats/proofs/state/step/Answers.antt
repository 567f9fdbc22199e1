use mathlib.Core.Path.{sym, ◌∙◌}
use borrow.Author.Tests.{eq-eqb, ne_eqb}
use Rattle.floats.specs.Grammar.{step_of}
use Rattle.floats.proofs.state.step.Goals as goal

pub returns-then-is_digit : goal.returns-then-is_digit
unfolding step_of
returns-then-is_digit c = simp (sym c.is_digit.ensures ∙ c.if-is_digit.true, c.on_digit.ensures)

pub returns-then-c-eq46 : goal.returns-then-c-eq46
unfolding step_of
returns-then-c-eq46 c = simp (sym c.is_digit.ensures ∙ c.if-is_digit.false, eq-eqb _ _ c.if-c-eq46.true, c.on_point.ensures)

pub returns-then-is_scale : goal.returns-then-is_scale
unfolding step_of
returns-then-is_scale c = simp (sym c.is_digit.ensures ∙ c.if-is_digit.false, ne_eqb _ _ c.if-c-eq46.false, sym c.is_scale.ensures ∙ c.if-is_scale.true, c.on_scale.ensures)

pub returns-then-is_sign : goal.returns-then-is_sign
unfolding step_of
returns-then-is_sign c = simp (sym c.is_digit.ensures ∙ c.if-is_digit.false, ne_eqb _ _ c.if-c-eq46.false, sym c.is_scale.ensures ∙ c.if-is_scale.false, sym c.is_sign.ensures ∙ c.if-is_sign.true, c.on_sign.ensures)

pub returns : goal.returns
unfolding step_of
returns c = simp (sym c.is_digit.ensures ∙ c.if-is_digit.false, ne_eqb _ _ c.if-c-eq46.false, sym c.is_scale.ensures ∙ c.if-is_scale.false, sym c.is_sign.ensures ∙ c.if-is_sign.false)

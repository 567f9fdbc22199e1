use mathlib.Core.Path.{sym, ◌∙◌}
use borrow.Author.Tests.{eq-eqb, ne_eqb}
use Rattle.text.specs.Classes.{float_char}
use Rattle.text.proofs.classes.is_float_char.Goals as goal

pub returns-then-is_digit : goal.returns-then-is_digit
unfolding float_char
returns-then-is_digit c = simp (sym c.is_digit.ensures ∙ c.if-is_digit.true)

pub returns-then-b-eq101 : goal.returns-then-b-eq101
unfolding float_char
returns-then-b-eq101 c = simp (sym c.is_digit.ensures ∙ c.if-is_digit.false, eq-eqb _ _ c.if-b-eq101.true)

pub returns-then-b-eq69 : goal.returns-then-b-eq69
unfolding float_char
returns-then-b-eq69 c = simp (sym c.is_digit.ensures ∙ c.if-is_digit.false, ne_eqb _ _ c.if-b-eq101.false, eq-eqb _ _ c.if-b-eq69.true)

pub returns-then-b-eq46 : goal.returns-then-b-eq46
unfolding float_char
returns-then-b-eq46 c = simp (sym c.is_digit.ensures ∙ c.if-is_digit.false, ne_eqb _ _ c.if-b-eq101.false, ne_eqb _ _ c.if-b-eq69.false, eq-eqb _ _ c.if-b-eq46.true)

pub returns-then-b-eq43 : goal.returns-then-b-eq43
unfolding float_char
returns-then-b-eq43 c = simp (sym c.is_digit.ensures ∙ c.if-is_digit.false, ne_eqb _ _ c.if-b-eq101.false, ne_eqb _ _ c.if-b-eq69.false, ne_eqb _ _ c.if-b-eq46.false, eq-eqb _ _ c.if-b-eq43.true)

pub returns-then-b-eq45 : goal.returns-then-b-eq45
unfolding float_char
returns-then-b-eq45 c = simp (sym c.is_digit.ensures ∙ c.if-is_digit.false, ne_eqb _ _ c.if-b-eq101.false, ne_eqb _ _ c.if-b-eq69.false, ne_eqb _ _ c.if-b-eq46.false, ne_eqb _ _ c.if-b-eq43.false, eq-eqb _ _ c.if-b-eq45.true)

pub returns-then-b-eq95 : goal.returns-then-b-eq95
unfolding float_char
returns-then-b-eq95 c = simp (sym c.is_digit.ensures ∙ c.if-is_digit.false, ne_eqb _ _ c.if-b-eq101.false, ne_eqb _ _ c.if-b-eq69.false, ne_eqb _ _ c.if-b-eq46.false, ne_eqb _ _ c.if-b-eq43.false, ne_eqb _ _ c.if-b-eq45.false, eq-eqb _ _ c.if-b-eq95.true)

pub returns : goal.returns
unfolding float_char
returns c = simp (sym c.is_digit.ensures ∙ c.if-is_digit.false, ne_eqb _ _ c.if-b-eq101.false, ne_eqb _ _ c.if-b-eq69.false, ne_eqb _ _ c.if-b-eq46.false, ne_eqb _ _ c.if-b-eq43.false, ne_eqb _ _ c.if-b-eq45.false, ne_eqb _ _ c.if-b-eq95.false)

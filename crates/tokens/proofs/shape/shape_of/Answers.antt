use mathlib.Core.Path.{◌∙◌, sym}
use borrow.Author.Tests.{eq-eqb, le-ltb, lt-ltb, ne_eqb}
use Rattle.tokens.specs.Shapes.{shape_of}
use Rattle.tokens.proofs.shape.shape_of.Goals as goal

pub returns-then-kind-gt0 : goal.returns-then-kind-gt0
unfolding shape_of
returns-then-kind-gt0 c = simp (lt-ltb _ _ c.if-kind-gt0.true, sym c.mark_kind-kind.ensures)

pub returns-then-a-eq35 : goal.returns-then-a-eq35
unfolding shape_of
returns-then-a-eq35 c = simp (le-ltb _ _ c.if-kind-gt0.false, eq-eqb _ _ c.if-a-eq35.true, sym c.mark_kind-kind.ensures)

pub returns-then-a-eq34 : goal.returns-then-a-eq34
unfolding shape_of
returns-then-a-eq34 c = simp (le-ltb _ _ c.if-kind-gt0.false, ne_eqb _ _ c.if-a-eq35.false, eq-eqb _ _ c.if-a-eq34.true, sym c.mark_kind-kind.ensures)

pub returns-then-a-eq39 : goal.returns-then-a-eq39
unfolding shape_of
returns-then-a-eq39 c = simp (le-ltb _ _ c.if-kind-gt0.false, ne_eqb _ _ c.if-a-eq35.false, ne_eqb _ _ c.if-a-eq34.false, eq-eqb _ _ c.if-a-eq39.true, sym c.mark_kind-kind.ensures)

pub returns-then-a-eq98 : goal.returns-then-a-eq98
unfolding shape_of
returns-then-a-eq98 c = simp (le-ltb _ _ c.if-kind-gt0.false, ne_eqb _ _ c.if-a-eq35.false, ne_eqb _ _ c.if-a-eq34.false, ne_eqb _ _ c.if-a-eq39.false, eq-eqb _ _ c.if-a-eq98.true, c.behind_b.ensures, sym c.mark_kind-kind.ensures)

pub returns-then-a-eq114 : goal.returns-then-a-eq114
unfolding shape_of
returns-then-a-eq114 c = simp (le-ltb _ _ c.if-kind-gt0.false, ne_eqb _ _ c.if-a-eq35.false, ne_eqb _ _ c.if-a-eq34.false, ne_eqb _ _ c.if-a-eq39.false, ne_eqb _ _ c.if-a-eq98.false, eq-eqb _ _ c.if-a-eq114.true, c.behind_r.ensures, sym c.mark_kind-kind.ensures)

pub returns-then-starts_number : goal.returns-then-starts_number
unfolding shape_of
returns-then-starts_number c = simp (le-ltb _ _ c.if-kind-gt0.false, ne_eqb _ _ c.if-a-eq35.false, ne_eqb _ _ c.if-a-eq34.false, ne_eqb _ _ c.if-a-eq39.false, ne_eqb _ _ c.if-a-eq98.false, ne_eqb _ _ c.if-a-eq114.false, sym c.starts_number.ensures ∙ c.if-starts_number.true, sym c.mark_kind-kind.ensures)

pub returns : goal.returns
unfolding shape_of
returns c = simp (le-ltb _ _ c.if-kind-gt0.false, ne_eqb _ _ c.if-a-eq35.false, ne_eqb _ _ c.if-a-eq34.false, ne_eqb _ _ c.if-a-eq39.false, ne_eqb _ _ c.if-a-eq98.false, ne_eqb _ _ c.if-a-eq114.false, sym c.starts_number.ensures ∙ c.if-starts_number.false, sym c.mark_kind-kind.ensures)

use mathlib.Core.Path.{sym, ◌∙◌}
use borrow.Author.Tests.{eq-eqb, ne_eqb}
use Rattle.text.proofs.ClassLaws.{blank_wide}
use Rattle.text.specs.Classes.{blank2, blank3}
use Rattle.text.proofs.classes.wide_blank_width.Goals as goal

pub returns-then-b-eq133 : goal.returns-then-b-eq133
unfolding blank2 blank3
returns-then-b-eq133 c = rw (blank_wide c.args.a c.args.b c.args.c c.requires) (simp (eq-eqb _ _ c.if-a-eq194.true, eq-eqb _ _ c.if-b-eq133.true))

pub returns-then-a-eq194 : goal.returns-then-a-eq194
unfolding blank2 blank3
returns-then-a-eq194 c = rw (blank_wide c.args.a c.args.b c.args.c c.requires) (rw (c.if-a-eq194.true, ne_eqb _ _ c.if-b-eq133.false))

pub returns-then-a-ne226 : goal.returns-then-a-ne226
unfolding blank2 blank3
returns-then-a-ne226 c = rw (blank_wide c.args.a c.args.b c.args.c c.requires) (simp (ne_eqb _ _ c.if-a-eq194.false, ne_eqb _ _ c.if-a-ne226.true))

pub returns-then-b-ne128 : goal.returns-then-b-ne128
unfolding blank2 blank3
returns-then-b-ne128 c = rw (blank_wide c.args.a c.args.b c.args.c c.requires) (simp (ne_eqb _ _ c.if-a-eq194.false, eq-eqb _ _ c.if-a-ne226.false, ne_eqb _ _ c.if-b-ne128.true))

pub returns-then-is_within : goal.returns-then-is_within
unfolding blank2 blank3
returns-then-is_within c = rw (blank_wide c.args.a c.args.b c.args.c c.requires) (simp (ne_eqb _ _ c.if-a-eq194.false, eq-eqb _ _ c.if-a-ne226.false, eq-eqb _ _ c.if-b-ne128.false, sym c.is_within.ensures ∙ c.if-is_within.true))

pub returns-then-is_within-2 : goal.returns-then-is_within-2
unfolding blank2 blank3
returns-then-is_within-2 c = rw (blank_wide c.args.a c.args.b c.args.c c.requires) (simp (ne_eqb _ _ c.if-a-eq194.false, eq-eqb _ _ c.if-a-ne226.false, eq-eqb _ _ c.if-b-ne128.false, sym c.is_within.ensures ∙ c.if-is_within.false, sym c.is_within-2.ensures ∙ c.if-is_within-2.true))

pub returns : goal.returns
unfolding blank2 blank3
returns c = rw (blank_wide c.args.a c.args.b c.args.c c.requires) (simp (ne_eqb _ _ c.if-a-eq194.false, eq-eqb _ _ c.if-a-ne226.false, eq-eqb _ _ c.if-b-ne128.false, sym c.is_within.ensures ∙ c.if-is_within.false, sym c.is_within-2.ensures ∙ c.if-is_within-2.false))

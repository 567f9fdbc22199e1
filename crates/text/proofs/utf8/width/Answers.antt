use mathlib.Core.Path.{sym, ◌∙◌}
use borrow.Author.Tests.{le-leb, lt-leb}
use Rattle.text.specs.Utf8.{width_of}
use Rattle.text.proofs.utf8.width.Goals as goal

pub returns-then-a-le127 : goal.returns-then-a-le127
unfolding width_of
returns-then-a-le127 c = simp (le-leb _ _ c.if-a-le127.true)

pub returns-then-is_within-2 : goal.returns-then-is_within-2
unfolding width_of
returns-then-is_within-2 c = simp (lt-leb _ _ c.if-a-le127.false, sym c.is_within.ensures ∙ c.if-is_within.true, sym c.is_within-then-is_within.ensures ∙ c.if-is_within-2.true)

pub returns-then-is_within : goal.returns-then-is_within
unfolding width_of
returns-then-is_within c = simp (lt-leb _ _ c.if-a-le127.false, sym c.is_within.ensures ∙ c.if-is_within.true, sym c.is_within-then-is_within.ensures ∙ c.if-is_within-2.false)

pub returns-then-three : goal.returns-then-three
unfolding width_of
returns-then-three c = simp (lt-leb _ _ c.if-a-le127.false, sym c.is_within.ensures ∙ c.if-is_within.false, sym c.is_within-2.ensures ∙ c.if-is_within-3.true, sym c.three.ensures ∙ c.if-three.true)

pub returns-then-is_within-3 : goal.returns-then-is_within-3
unfolding width_of
returns-then-is_within-3 c = simp (lt-leb _ _ c.if-a-le127.false, sym c.is_within.ensures ∙ c.if-is_within.false, sym c.is_within-2.ensures ∙ c.if-is_within-3.true, sym c.three.ensures ∙ c.if-three.false)

pub returns-then-four : goal.returns-then-four
unfolding width_of
returns-then-four c = simp (lt-leb _ _ c.if-a-le127.false, sym c.is_within.ensures ∙ c.if-is_within.false, sym c.is_within-2.ensures ∙ c.if-is_within-3.false, sym c.is_within-3.ensures ∙ c.if-is_within-4.true, sym c.four.ensures ∙ c.if-four.true)

pub returns-else-four : goal.returns-else-four
unfolding width_of
returns-else-four c = simp (lt-leb _ _ c.if-a-le127.false, sym c.is_within.ensures ∙ c.if-is_within.false, sym c.is_within-2.ensures ∙ c.if-is_within-3.false, sym c.is_within-3.ensures ∙ c.if-is_within-4.true, sym c.four.ensures ∙ c.if-four.false)

pub returns-else-is_within-4 : goal.returns-else-is_within-4
unfolding width_of
returns-else-is_within-4 c = simp (lt-leb _ _ c.if-a-le127.false, sym c.is_within.ensures ∙ c.if-is_within.false, sym c.is_within-2.ensures ∙ c.if-is_within-3.false, sym c.is_within-3.ensures ∙ c.if-is_within-4.false)

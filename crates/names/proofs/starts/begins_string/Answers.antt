use mathlib.Core.Path.{sym, ◌∙◌}
use Rattle.names.specs.Starts.{begins_string}
use Rattle.names.proofs.starts.begins_string.Goals as goal

pub returns-then-starts_with2 : goal.returns-then-starts_with2
unfolding begins_string
returns-then-starts_with2 c = simp (sym c.starts_with2.ensures ∙ c.if-starts_with2.true)

pub returns-then-starts_with2-2 : goal.returns-then-starts_with2-2
unfolding begins_string
returns-then-starts_with2-2 c = simp (sym c.starts_with2.ensures ∙ c.if-starts_with2.false, sym c.starts_with2-2.ensures ∙ c.if-starts_with2-2.true)

pub returns-then-starts_with3 : goal.returns-then-starts_with3
unfolding begins_string
returns-then-starts_with3 c = simp (sym c.starts_with2.ensures ∙ c.if-starts_with2.false, sym c.starts_with2-2.ensures ∙ c.if-starts_with2-2.false, sym c.starts_with3.ensures ∙ c.if-starts_with3.true)

pub returns-then-starts_with3-2 : goal.returns-then-starts_with3-2
unfolding begins_string
returns-then-starts_with3-2 c = simp (sym c.starts_with2.ensures ∙ c.if-starts_with2.false, sym c.starts_with2-2.ensures ∙ c.if-starts_with2-2.false, sym c.starts_with3.ensures ∙ c.if-starts_with3.false, sym c.starts_with3-2.ensures ∙ c.if-starts_with3-2.true)

pub returns-then-starts_with2-3 : goal.returns-then-starts_with2-3
unfolding begins_string
returns-then-starts_with2-3 c = simp (sym c.starts_with2.ensures ∙ c.if-starts_with2.false, sym c.starts_with2-2.ensures ∙ c.if-starts_with2-2.false, sym c.starts_with3.ensures ∙ c.if-starts_with3.false, sym c.starts_with3-2.ensures ∙ c.if-starts_with3-2.false, sym c.starts_with2-3.ensures ∙ c.if-starts_with2-3.true)

pub returns-then-starts_with3-3 : goal.returns-then-starts_with3-3
unfolding begins_string
returns-then-starts_with3-3 c = simp (sym c.starts_with2.ensures ∙ c.if-starts_with2.false, sym c.starts_with2-2.ensures ∙ c.if-starts_with2-2.false, sym c.starts_with3.ensures ∙ c.if-starts_with3.false, sym c.starts_with3-2.ensures ∙ c.if-starts_with3-2.false, sym c.starts_with2-3.ensures ∙ c.if-starts_with2-3.false, sym c.starts_with3-3.ensures ∙ c.if-starts_with3-3.true)

pub returns : goal.returns
unfolding begins_string
returns c = simp (sym c.starts_with2.ensures ∙ c.if-starts_with2.false, sym c.starts_with2-2.ensures ∙ c.if-starts_with2-2.false, sym c.starts_with3.ensures ∙ c.if-starts_with3.false, sym c.starts_with3-2.ensures ∙ c.if-starts_with3-2.false, sym c.starts_with2-3.ensures ∙ c.if-starts_with2-3.false, sym c.starts_with3-3.ensures ∙ c.if-starts_with3-3.false, c.starts_with3-4.ensures)

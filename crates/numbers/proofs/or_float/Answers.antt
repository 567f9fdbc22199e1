use mathlib.Core.Path.{◌∙◌, sym}
use borrow.Author.Tests.{le-leb, lt-leb}
use Rattle.numbers.proofs.or_float.Goals as goal

pub returns-then-refusal-span : goal.returns-then-refusal-span
returns-then-refusal-span c = simp (sym c.float-f.ensures ∙ c.in-Ok.is, le-leb _ _ c.if-refusal-span.true)

pub returns-else-refusal-span : goal.returns-else-refusal-span
returns-else-refusal-span c = simp (sym c.float-f.ensures ∙ c.in-Ok.is, lt-leb _ _ c.if-refusal-span.false)

pub returns-in-Err : goal.returns-in-Err
returns-in-Err c = simp (sym c.float-f.ensures ∙ c.in-Err.is)

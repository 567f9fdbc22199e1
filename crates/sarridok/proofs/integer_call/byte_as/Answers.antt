use mathlib.Core.Path.{◌∙◌, sym}
use borrow.Author.Tests.{eq-eqb, ne_eqb}
use Rattle.sarridok.proofs.integer_call.byte_as.Goals as goal

pub returns-then-code_of-ne5 : goal.returns-then-code_of-ne5
returns-then-code_of-ne5 c = simp (c.in-Ok.is, ne_eqb _ _ (λ e. c.if-code_of-ne5.true (c.code_of.ensures ∙ e)))

pub returns-else-code_of-ne5 : goal.returns-else-code_of-ne5
returns-else-code_of-ne5 c = simp (c.in-Ok.is, eq-eqb _ _ (sym c.code_of.ensures ∙ c.if-code_of-ne5.false))

pub returns-in-Err : goal.returns-in-Err
returns-in-Err c = rw c.in-Err.is

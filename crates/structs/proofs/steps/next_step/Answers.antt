use mathlib.Core.Path.{◌∙◌, ap, sym}
use borrow.Author.Tests.{le-ltb, lt-ltb}
use Rattle.structs.specs.Scan.{step_of}
use Rattle.structs.specs.declared.steps.Step.TheVariants.{Refused}
use Rattle.structs.proofs.steps.next_step.Goals as goal

pub returns-then-s-n : goal.returns-then-s-n
unfolding step_of
returns-then-s-n c = simp (sym c.skip_spurious-passed.ensures ∙ c.in-Ok.is, le-ltb _ _ c.if-s-n.true) (ap Refused c.eof.ensures)

pub returns-else-s-n : goal.returns-else-s-n
unfolding step_of
returns-else-s-n c = simp (sym c.skip_spurious-passed.ensures ∙ c.in-Ok.is, lt-ltb _ _ c.if-s-n.false) c.marked.ensures

pub returns-in-Err : goal.returns-in-Err
unfolding step_of
returns-in-Err c = simp (sym c.skip_spurious-passed.ensures ∙ c.in-Err.is)

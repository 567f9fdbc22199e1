use Rattle.std.proofs.Common.{Err}
use native.Mathlib.Omega.{arith}
use mathlib.Core.Path.{ap}
use borrow.Author.Tests.{eq-eqb, ne_eqb}
use Rattle.structs.proofs.passes.behind_literal.Goals as goal

pub overflow_add-result : goal.overflow_add-result
overflow_add-result c = let h = rw c.in-Ok.is at c.requires in omega arith

pub returns-then-refusal-none : goal.returns-then-refusal-none
returns-then-refusal-none c = simp (c.in-Err.is, eq-eqb _ _ c.if-refusal-none.true)

pub placed_behind-requires : goal.placed_behind-requires
placed_behind-requires c = rw c.in-Err.is at c.requires

pub returns-in-Ok : goal.returns-in-Ok
returns-in-Ok c = rw c.in-Ok.is

pub returns-else-refusal-none : goal.returns-else-refusal-none
returns-else-refusal-none c = simp (c.in-Err.is, ne_eqb _ _ c.if-refusal-none.false) (ap Err c.placed_behind.ensures)

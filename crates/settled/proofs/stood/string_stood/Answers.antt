use Rattle.std.proofs.Common.{Ok, Err}
use native.Mathlib.Omega.{arith}
use mathlib.Core.Path.{◌∙◌, sym}
use lib.ListN.{length-drop}
use Rattle.attributes.proofs.StepLaws.{string_fits}
use Rattle.settled.proofs.StoodLaws.{string_out}
use Rattle.settled.proofs.stood.string_stood.Goals as goal

pub returns-then-s-at : goal.returns-then-s-at
returns-then-s-at c = string_out c.args.s.now c.args.at c.if-s-at.true

pub overflow_add-end : goal.overflow_add-end
overflow_add-end c = omega (arith, (string_fits c.args.s.now c.args.at (Ok _) (sym c.in-Ok.is ∙ c.string-found.ensures)).1, length-drop c.args.at c.args.s.now)

pub overflow_add-place : goal.overflow_add-place
overflow_add-place c = omega (arith, string_fits c.args.s.now c.args.at (Err _) (sym c.in-Err.is ∙ c.string-found.ensures), length-drop c.args.at c.args.s.now)

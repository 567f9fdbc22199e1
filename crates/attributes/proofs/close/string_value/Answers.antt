use Rattle.std.proofs.Common.{Ok, Err}
use native.Mathlib.Omega.{arith}
use mathlib.Core.Path.{◌∙◌, ap, sym}
use lib.ListN.{length-drop}
use Rattle.attributes.proofs.StepLaws.{string_by, string_fits, string_out}
use Rattle.attributes.proofs.close.string_value.Goals as goal

pub returns-then-s-at : goal.returns-then-s-at
returns-then-s-at c = ap Err c.expected_string.ensures ∙ string_out c.args.s.now c.args.at c.if-s-at.true

pub overflow_add-end : goal.overflow_add-end
overflow_add-end c = omega (arith, (string_fits c.args.s.now c.args.at (Ok _) (sym c.in-Ok.is ∙ c.string-found.ensures)).1, length-drop c.args.at c.args.s.now)

pub placed_behind-requires : goal.placed_behind-requires
placed_behind-requires c = omega (arith, string_fits c.args.s.now c.args.at (Err _) (sym c.in-Err.is ∙ c.string-found.ensures), length-drop c.args.at c.args.s.now)

pub returns-in-Ok : goal.returns-in-Ok
returns-in-Ok c = c.string_end.ensures ∙ string_by c.args.s.now c.args.at (Ok _) (sym c.in-Ok.is ∙ c.string-found.ensures)

pub returns-in-Err : goal.returns-in-Err
returns-in-Err c = ap Err c.placed_behind.ensures ∙ string_by c.args.s.now c.args.at (Err _) (sym c.in-Err.is ∙ c.string-found.ensures)

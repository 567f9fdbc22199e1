use Rattle.std.proofs.Common.{Err}
use native.Mathlib.Omega.{arith}
use mathlib.Core.Path.{◌∙◌, ap}
use Rattle.attributes.proofs.StepLaws.{sign_in, sign_out, stands_fits}
use Rattle.attributes.proofs.steps.sign_at.Goals as goal

pub returns-then-peek-b : goal.returns-then-peek-b
returns-then-peek-b c = ap Err c.expected_attribute.ensures ∙ sign_out c.args.s.now c.args.at c.args.b _ c.peek.ensures c.if-peek-b.true

pub overflow_add-next : goal.overflow_add-next
overflow_add-next c = omega (arith, stands_fits c.args.s.now c.args.at c.args.b _ c.peek.ensures c.requires c.if-peek-b.false)

pub returns : goal.returns
returns c = sign_in c.args.s.now c.args.at c.args.b _ c.peek.ensures _ c.if-peek-b.false c.skip_ws.ensures

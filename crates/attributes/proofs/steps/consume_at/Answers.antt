use Rattle.std.proofs.Common.{Ok, Err}
use native.Mathlib.Omega.{arith}
use borrow.Author.Rules.{rules}
use Rattle.attributes.proofs.StepLaws.{consume_in, consume_out, stands_fits}
use Rattle.attributes.proofs.steps.consume_at.Goals as goal

pub returns-then-peek-b : goal.returns-then-peek-b
returns-then-peek-b c = consume_out c.args.s.now c.args.at c.args.b _ c.peek.ensures c.args.all c.if-peek-b.true

pub overflow_add-next : goal.overflow_add-next
overflow_add-next c = omega (arith, stands_fits c.args.s.now c.args.at c.args.b _ c.peek.ensures c.requires c.if-peek-b.false)

pub returns-in_err-place : goal.returns-in_err-place
returns-in_err-place c = rw (← consume_in c.args.s.now c.args.at c.args.b _ c.peek.ensures c.args.all (Err _) c.if-peek-b.false c.in_err-place.ensures) (search rules)

pub returns : goal.returns
returns c = consume_in c.args.s.now c.args.at c.args.b _ c.peek.ensures c.args.all (Ok _) c.if-peek-b.false c.in_ok-place.ensures

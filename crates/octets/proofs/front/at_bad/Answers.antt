use native.Mathlib.Omega.{arith}
use borrow.Author.Rules.{rules}
use Rattle.octets.proofs.BegunLaws.{bad_end_at, bad_on_at, begun_fits}
use Rattle.octets.proofs.front.at_bad.Goals as goal

pub overflow_add-n : goal.overflow_add-n
overflow_add-n c = omega (arith, begun_fits c.args.s.now c.args.k c.begun-m.result (search rules) c.begun-m.ensures)

pub returns-then-n-s : goal.returns-then-n-s
returns-then-n-s c = bad_end_at c.args.s.now c.args.k c.begun-m.result c.begun-m.ensures c.if-n-s.true

pub returns : goal.returns
returns c = bad_on_at c.args.s.now c.args.k c.begun-m.result c.begun-m.ensures c.if-n-s.false

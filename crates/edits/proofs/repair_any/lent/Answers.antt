use Prim.Native.Nat.{◌-◌}
use native.Mathlib.Omega.{arith}
use Rattle.edits.proofs.AnyLaws.{lent_part, lent_all}
use Rattle.edits.proofs.repair_any.lent.Goals as goal

pub returns-then-k-tape : goal.returns-then-k-tape
returns-then-k-tape c = lent_part c.args.tape.now c.args.text.now c.args.aside.now c.args.q c.args.k (c.args.o.now, c.args.at) _ _ _ (c.args.k - 0) (omega arith) c.repaired.ensures

pub returns : goal.returns
returns c = lent_all c.args.tape.now c.args.text.now c.args.aside.now c.args.q c.args.k (c.args.o.now, c.args.at) _ _ _ (omega (arith, c.if-k-tape.false)) c.repaired-2.ensures

use Prim.Native.Nat.{◌-◌}
use native.Mathlib.Omega.{arith}
use Rattle.edits.proofs.TextLaws.{edit_part, edit_all}
use Rattle.edits.proofs.repair_text.lent_to.Goals as goal

pub returns-then-k-tape : goal.returns-then-k-tape
returns-then-k-tape c = edit_part c.args.old.now c.args.new.now c.args.tape.now c.args.aside.now c.args.a c.args.b (c.args.o.now, c.args.at) _ _ _ c.room-k.result (c.room-k.result - 0) c.room-k.ensures (omega arith) c.read.ensures

pub returns : goal.returns
returns c = edit_all c.args.old.now c.args.new.now c.args.tape.now c.args.aside.now c.args.a c.args.b (c.args.o.now, c.args.at) _ _ _ c.room-k.result c.room-k.ensures c.if-k-tape.false c.read-2.ensures

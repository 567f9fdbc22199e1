use Rattle.edits.proofs.AnyLaws.{any_accepted, any_refused}
use Rattle.edits.proofs.repair_any.repaired.Goals as goal

pub returns-in-Ok : goal.returns-in-Ok
returns-in-Ok c = any_accepted c.args.tape.now c.args.text.now c.args.aside.now c.args.q _ c.repair-r.ensures.0 _ c.repair-r.ensures.1 _ c.copy.ensures (c.args.o.now, c.args.at) _ _ _ c.in-Ok.is c.counts-a.ensures c.numbers.ensures

pub returns-in-Err : goal.returns-in-Err
returns-in-Err c = any_refused c.args.tape.now c.args.text.now c.args.aside.now c.args.q _ c.repair-r.ensures.0 _ c.repair-r.ensures.1 _ c.copy.ensures (c.args.o.now, c.args.at) _ _ _ c.in-Err.is c.refused-a.ensures _ c.same.ensures c.clean.ensures

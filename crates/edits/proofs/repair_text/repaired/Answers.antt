use Rattle.edits.proofs.TextLaws.{text_accepted, text_refused}
use Rattle.edits.proofs.repair_text.repaired.Goals as goal

pub returns-in-Ok : goal.returns-in-Ok
returns-in-Ok c = text_accepted c.args.tape.now c.args.new.now c.args.aside.now c.args.q _ c.repair-r.ensures.0 _ c.repair-r.ensures.1 _ c.copy.ensures (c.args.o.now, c.args.at) _ _ _ c.in-Ok.is c.counts-a.ensures _ c.entries-b.ensures _ c.written.ensures _ c.kept.ensures c.clean.ensures

pub returns-in-Err : goal.returns-in-Err
returns-in-Err c = text_refused c.args.tape.now c.args.new.now c.args.aside.now c.args.q _ c.repair-r.ensures.0 _ c.repair-r.ensures.1 _ c.copy.ensures (c.args.o.now, c.args.at) _ _ _ c.in-Err.is c.refused-a.ensures _ c.same.ensures c.clean-in-Err.ensures

use mathlib.Core.Path.{refl}
use Rattle.lines.specs.Ascii.{ascii}
use Rattle.lines.proofs.OutLaws.{then}
use Rattle.show.specs.Answers.{refused_text}
use Rattle.edits.specs.Repairs.{read_repair}
use Rattle.edits.proofs.LineLaws.{done}
use Rattle.edits.proofs.TextLaws.{told-read}
use Rattle.edits.proofs.repair_text.read.Goals as goal

pub returns-in-Ok : goal.returns-in-Ok
returns-in-Ok c = done (read_repair c.args.old.now c.args.new.now c.args.a c.args.b c.args.tape.now c.args.aside.now) _ (c.args.o.now, c.args.at) _ (told-read c.args.old.now c.args.new.now c.args.tape.now c.args.aside.now c.args.a c.args.b _ c.mark.ensures _ c.read-r.ensures.0 _ c.read-r.ensures.1 _ c.in-Ok.is) c.repaired.ensures

pub returns-in-Err : goal.returns-in-Err
returns-in-Err c = done (read_repair c.args.old.now c.args.new.now c.args.a c.args.b c.args.tape.now c.args.aside.now) _ (c.args.o.now, c.args.at) _ (told-read c.args.old.now c.args.new.now c.args.tape.now c.args.aside.now c.args.a c.args.b _ c.mark.ensures _ c.read-r.ensures.0 _ c.read-r.ensures.1 _ c.in-Err.is) (then (c.args.o.now, c.args.at) _ _ (ascii "old ") (refused_text c.in-Err.f) c.bytes-a.ensures c.refused.ensures, refl, refl)

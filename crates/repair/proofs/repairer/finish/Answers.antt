use native.Mathlib.Omega.{arith}
use Rattle.repair.proofs.Finishing.{finish-answer, finish-tape}
use Rattle.repair.proofs.repairer.finish.Goals as goal

pub returns : goal.returns
returns c = (finish-answer c.args.tape.now c.args.j c.args.text.now c.args.rest (omega (arith, c.room.ensures, c.if-room-total.false)), finish-tape c.args.tape.now c.args.j c.args.text.now c.args.rest (omega (arith, c.room.ensures, c.if-room-total.false)) (omega (arith, c.requires.3)) c.begins.result c.begins.ensures _ c.rewrite.ensures)

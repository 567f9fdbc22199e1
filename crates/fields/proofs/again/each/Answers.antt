use native.Mathlib.Omega.{arith}
use Rattle.fields.proofs.FirstLaws.{first_start}
use Rattle.fields.specs.Names.{name_at}
use Rattle.fields.proofs.again.each.Goals as goal

pub loop-p-init : goal.loop-p-init
loop-p-init c = (omega arith, first_start (name_at c.args.text.now c.args.tape.now) c.args.fields.now)

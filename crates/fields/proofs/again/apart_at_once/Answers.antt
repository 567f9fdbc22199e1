use native.Mathlib.Omega.{arith}
use Rattle.fields.proofs.FirstLaws.{apart_nowhere}
use Rattle.fields.specs.Names.{name_at}
use Rattle.fields.proofs.again.apart_at_once.Goals as goal

pub returns : goal.returns
returns c = λ e. apart_nowhere (name_at c.args.text.now c.args.tape.now) c.args.fields.now c.loop-p.p (omega (arith, c.loop-p-test.false)) c.loop-p.invariant.2

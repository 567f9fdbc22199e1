use native.Mathlib.Omega.{arith}
use Rattle.repair.proofs.Staying.{stays}
use Rattle.repair.proofs.moving.stay.Goals as goal

pub returns-then-b-e : goal.returns-then-b-e
returns-then-b-e c = stays c.args.b c.args.e c.args.m c.args.f c.args.tape.now c.if-b-e.true (omega (arith, c.requires.0)) c.requires.1

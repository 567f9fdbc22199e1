use native.Mathlib.Omega.{arith}
use Rattle.repair.proofs.Laying.{up_goes, up_movable, up_starts}
use Rattle.repair.proofs.moving.shift_up.Goals as goal

pub loop-k-init : goal.loop-k-init
loop-k-init c = up_starts c.args.b c.args.e c.args.m c.args.f c.args.g c.args.tape.now

pub shift_row-requires : goal.shift_row-requires
shift_row-requires c = (omega (arith, c.requires.1), omega (arith, c.requires.0, c.requires.1), up_movable c.args.b c.args.e c.args.m c.args.f c.args.g c.args.tape.now c.loop-k.k _ (omega arith) c.requires.0 (omega (arith, c.requires.1)) c.requires.2 c.loop-k.invariant)

pub loop-k-preserved : goal.loop-k-preserved
loop-k-preserved c = up_goes c.args.b c.args.e c.args.m c.args.f c.args.g c.args.tape.now c.loop-k.k _ _ c.requires.0 (omega (arith, c.requires.1)) c.loop-k.invariant c.shift_row.ensures

use native.Mathlib.Omega.{arith}
use mathlib.Core.Path.{◌∙◌, ap, sym}
use lib.ListN.{get_or}
use Rattle.floats.specs.Classes.{float_goes}
use Rattle.text.proofs.RunLaws.{run2_end, run2_more, run2_out}
use Rattle.floats.proofs.class.float_run.Goals as goal

pub loop-i-preserved : goal.loop-i-preserved
loop-i-preserved c = let e = run2_more float_goes c.args.s.now c.loop-i.i c.loop-i-test.true (sym (c.float_goes.ensures ∙ ap (float_goes (get_or c.args.s.now c.loop-i.i 0)) c.peek-b.ensures) ∙ c.if-not-float_goes.false) in omega (arith, c.loop-i.invariant)

pub returns-then-not-float_goes : goal.returns-then-not-float_goes
returns-then-not-float_goes c = let e = run2_out float_goes c.args.s.now c.loop-i.i c.loop-i-test.true (sym (c.float_goes.ensures ∙ ap (float_goes (get_or c.args.s.now c.loop-i.i 0)) c.peek-b.ensures) ∙ c.if-not-float_goes.true) in omega (arith, c.loop-i.invariant)

pub returns : goal.returns
returns c = let e = run2_end float_goes c.args.s.now c.loop-i.i c.loop-i-test.false in omega (arith, c.loop-i.invariant)

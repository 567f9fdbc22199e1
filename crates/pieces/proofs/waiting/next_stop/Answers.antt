use native.Mathlib.Omega.{arith}
use mathlib.Core.Path.{◌∙◌, ◌≡◌, refl, sym}
use lib.ListN.{length}
use Rattle.pieces.proofs.StopLaws.{next_here, next_none, next_on}
use Rattle.pieces.proofs.waiting.next_stop.Goals as goal

pub loop-i-init : goal.loop-i-init
loop-i-init c = refl

pub returns-then-is_stop : goal.returns-then-is_stop
returns-then-is_stop c = next_here c.args.part.now c.args.from c.loop-i.i c.loop-i-test.true c.loop-i.invariant (sym c.is_stop.ensures ∙ c.if-is_stop.true)

pub loop-i-preserved : goal.loop-i-preserved
loop-i-preserved c = next_on c.args.part.now c.args.from c.loop-i.i c.loop-i-test.true c.loop-i.invariant (sym c.is_stop.ensures ∙ c.if-is_stop.false)

pub returns : goal.returns
returns c =
    let z : length c.args.part.now ≡ c.loop-i.i = omega (arith, c.requires) in
    z ∙ next_none c.args.part.now c.args.from c.loop-i.i c.loop-i-test.false c.loop-i.invariant

use native.Mathlib.Omega.{arith}
use mathlib.Core.Path.{refl}
use Rattle.arrivals.proofs.TextLaws.{fit_off, fit_on, fit_ends}
use Rattle.arrivals.proofs.arrive_text.fit.Goals as goal

pub loop-cut-init : goal.loop-cut-init
loop-cut-init c = refl

pub overflow_cast-k : goal.overflow_cast-k
overflow_cast-k c = omega (arith, c.type_inv.cuts c.loop-cut.cut-index)

pub returns-then-left-k : goal.returns-then-left-k
returns-then-left-k c = fit_off c.args.cuts.now c.loop-cut.cut-index c.loop-cut.left _ c.loop-cut.invariant (omega arith) c.if-left-k.true

pub loop-cut-preserved : goal.loop-cut-preserved
loop-cut-preserved c = fit_on c.args.cuts.now c.loop-cut.cut-index c.loop-cut.left _ c.loop-cut.invariant (omega arith) c.if-left-k.false

pub returns : goal.returns
returns c = fit_ends c.args.cuts.now c.loop-cut.cut-index c.loop-cut.left _ c.loop-cut.invariant (omega arith)

use mathlib.Core.Path.{◌∙◌, sym}
use Rattle.settled.proofs.CodeLaws.{stop_here, stop_on, stop_out}
use Rattle.settled.proofs.bytes.stops_from.Goals as goal

pub returns-then-is_stop : goal.returns-then-is_stop
returns-then-is_stop c = sym (stop_here c.args.p.now c.loop-i.i c.loop-i-test.true (sym c.is_stop.ensures ∙ c.if-is_stop.true)) ∙ c.loop-i.invariant

pub loop-i-preserved : goal.loop-i-preserved
loop-i-preserved c = sym (stop_on c.args.p.now c.loop-i.i c.loop-i-test.true (sym c.is_stop.ensures ∙ c.if-is_stop.false)) ∙ c.loop-i.invariant

pub returns : goal.returns
returns c = sym (stop_out c.args.p.now c.loop-i.i c.loop-i-test.false) ∙ c.loop-i.invariant

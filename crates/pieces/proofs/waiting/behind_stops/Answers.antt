use Prim.Native.Nat.{◌+◌, ◌-◌}
use native.Mathlib.Omega.{arith}
use mathlib.Core.Path.{◌∙◌, ◌≡◌, sym}
use Rattle.settled.specs.Bytes.{stops_byte}
use Rattle.pieces.proofs.StopLaws.{last_end, last_here, last_none, last_on}
use Rattle.pieces.proofs.waiting.behind_stops.Goals as goal

pub loop-i-init : goal.loop-i-init
loop-i-init c = (c.requires, last_end stops_byte c.args.part.now c.args.from)

pub returns-then-is_stop : goal.returns-then-is_stop
returns-then-is_stop c =
    let z : c.loop-i.i - 1 + 1 ≡ c.loop-i.i = omega arith in
    z ∙ last_here stops_byte c.args.part.now c.args.from c.loop-i.i c.loop-i-test.true (omega arith) c.loop-i.invariant.1 (sym c.is_stop.ensures ∙ c.if-is_stop.true)

pub loop-i-preserved : goal.loop-i-preserved
loop-i-preserved c = (omega (arith, c.loop-i-test.true), last_on stops_byte c.args.part.now c.args.from c.loop-i.i c.loop-i-test.true (omega arith) c.loop-i.invariant.1 (sym c.is_stop.ensures ∙ c.if-is_stop.false))

pub returns : goal.returns
returns c = last_none stops_byte c.args.part.now c.args.from c.loop-i.i (omega (arith, c.loop-i-test.false, c.loop-i.invariant.0)) c.loop-i.invariant.1

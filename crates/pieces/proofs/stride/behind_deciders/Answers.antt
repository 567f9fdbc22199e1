use Prim.Native.Nat.{◌+◌, ◌-◌}
use native.Mathlib.Omega.{arith}
use mathlib.Core.Path.{◌∙◌, ◌≡◌, sym}
use Rattle.settled.specs.Bytes.{decides_byte}
use Rattle.pieces.proofs.StopLaws.{last_end, last_here, last_none, last_on}
use Rattle.pieces.proofs.stride.behind_deciders.Goals as goal

pub loop-i-init : goal.loop-i-init
loop-i-init c = (c.requires, last_end decides_byte c.args.part.now c.args.from)

pub returns-then-is_decider : goal.returns-then-is_decider
returns-then-is_decider c =
    let z : c.loop-i.i - 1 + 1 ≡ c.loop-i.i = omega arith in
    z ∙ last_here decides_byte c.args.part.now c.args.from c.loop-i.i c.loop-i-test.true (omega arith) c.loop-i.invariant.1 (sym c.is_decider.ensures ∙ c.if-is_decider.true)

pub loop-i-preserved : goal.loop-i-preserved
loop-i-preserved c = (omega (arith, c.loop-i-test.true), last_on decides_byte c.args.part.now c.args.from c.loop-i.i c.loop-i-test.true (omega arith) c.loop-i.invariant.1 (sym c.is_decider.ensures ∙ c.if-is_decider.false))

pub returns : goal.returns
returns c = last_none decides_byte c.args.part.now c.args.from c.loop-i.i (omega (arith, c.loop-i-test.false, c.loop-i.invariant.0)) c.loop-i.invariant.1

use native.Mathlib.Omega.{arith}
use mathlib.Core.Path.{◌∙◌, sym}
use lib.ListN.{length-take}
use lib.Seq.{length-take-le}
use Rattle.pieces.proofs.StrideLaws.{far_end, from_inside, stride_far, stride_last, stride_near, stride_waits}
use Rattle.pieces.proofs.stride.stride.Goals as goal

pub leap-far-requires : goal.leap-far-requires
leap-far-requires c = (from_inside c.args.part.now c.args.seen (omega (arith, c.requires.0)) c.start_from-from.result c.start_from-from.ensures, c.requires.1)

pub returns-then-is_some : goal.returns-then-is_some
returns-then-is_some c = stride_far c.args.part.now c.args.seen (omega (arith, c.requires.0)) c.start_from-from.result c.start_from-from.ensures c.leap-far.result c.leap-far.ensures (sym c.is_some.ensures ∙ c.if-is_some.true)

pub wait_from-requires : goal.wait_from-requires
wait_from-requires c = (from_inside c.args.part.now c.args.seen (omega (arith, c.requires.0)) c.start_from-from.result c.start_from-from.ensures, c.requires.1, c.requires.2)

pub returns-then-end-from : goal.returns-then-end-from
returns-then-end-from c = stride_waits c.args.part.now c.args.seen (omega (arith, c.requires.0)) c.start_from-from.result c.start_from-from.ensures c.leap-far.result c.leap-far.ensures (sym c.is_some.ensures ∙ c.if-is_some.false) c.wait_from.result c.wait_from.ensures c.if-end-from.true

pub slice_bounds-leap-end : goal.slice_bounds-leap-end
slice_bounds-leap-end c = sym (length-take-le c.leap-far.result.end c.args.part.now (far_end c.args.part.now c.args.seen (omega (arith, c.requires.0)) c.start_from-from.result c.start_from-from.ensures c.leap-far.result c.leap-far.ensures))

pub leap-near-requires : goal.leap-near-requires
leap-near-requires c = (omega (arith, length-take-le c.leap-far.result.end c.args.part.now (far_end c.args.part.now c.args.seen (omega (arith, c.requires.0)) c.start_from-from.result c.start_from-from.ensures c.leap-far.result c.leap-far.ensures), c.if-end-from.false), omega (arith, length-take c.leap-far.result.end c.args.part.now, c.requires.1))

pub returns-then-is_some-2 : goal.returns-then-is_some-2
returns-then-is_some-2 c = stride_near c.args.part.now c.args.seen (omega (arith, c.requires.0)) c.start_from-from.result c.start_from-from.ensures c.leap-far.result c.leap-far.ensures (sym c.is_some.ensures ∙ c.if-is_some.false) c.leap-near.result c.leap-near.ensures c.if-end-from.false (sym c.is_some-2.ensures ∙ c.if-is_some-2.true)

pub wait_from-requires-2 : goal.wait_from-requires-2
wait_from-requires-2 c = (from_inside c.args.part.now c.args.seen (omega (arith, c.requires.0)) c.start_from-from.result c.start_from-from.ensures, c.requires.1, c.requires.2)

pub returns : goal.returns
returns c = stride_last c.args.part.now c.args.seen (omega (arith, c.requires.0)) c.start_from-from.result c.start_from-from.ensures c.leap-far.result c.leap-far.ensures (sym c.is_some.ensures ∙ c.if-is_some.false) c.leap-near.result c.leap-near.ensures c.if-end-from.false c.wait_from-2.result c.wait_from-2.ensures (sym c.is_some-2.ensures ∙ c.if-is_some-2.false)

use native.Mathlib.Omega.{arith}
use mathlib.Core.Path.{◌∙◌, sym}
use lib.ListN.{length-take}
use lib.Seq.{length-take-le}
use Rattle.pieces.proofs.StrideLaws.{leap_broken, leap_far, leap_inside, leap_none, leap_stops_byte}
use Rattle.pieces.proofs.stride.leap.Goals as goal

pub returns-then-bytes-seen : goal.returns-then-bytes-seen
returns-then-bytes-seen c = leap_none c.args.part.now c.args.seen c.behind_deciders-bytes.result c.behind_deciders-bytes.ensures c.no_leap.result c.no_leap.ensures c.if-bytes-seen.true

pub slice_bounds-scan-end : goal.slice_bounds-scan-end
slice_bounds-scan-end c = sym (length-take-le c.behind_deciders-bytes.result c.args.part.now (leap_inside c.args.part.now c.args.seen c.behind_deciders-bytes.result c.behind_deciders-bytes.ensures c.if-bytes-seen.false))

pub scan-all-requires : goal.scan-all-requires
scan-all-requires c = omega (arith, length-take c.behind_deciders-bytes.result c.args.part.now, c.requires.1)

pub returns-then-not-opens_end : goal.returns-then-not-opens_end
returns-then-not-opens_end c = leap_broken c.args.part.now c.args.seen c.behind_deciders-bytes.result c.behind_deciders-bytes.ensures c.if-bytes-seen.false c.scan-all.result c.scan-all.ensures c.no_leap-then-not-opens_end.result c.no_leap-then-not-opens_end.ensures (sym c.opens_end.ensures ∙ c.if-not-opens_end.true)

pub slice_bounds-judge_scanned-end : goal.slice_bounds-judge_scanned-end
slice_bounds-judge_scanned-end c = sym (length-take-le c.behind_deciders-bytes.result c.args.part.now (leap_inside c.args.part.now c.args.seen c.behind_deciders-bytes.result c.behind_deciders-bytes.ensures c.if-bytes-seen.false))

pub judge_scanned-verdict-requires : goal.judge_scanned-verdict-requires
judge_scanned-verdict-requires c = let b = leap_stops_byte c.args.part.now c.args.seen c.behind_deciders-bytes.result c.behind_deciders-bytes.ensures c.if-bytes-seen.false in (b.0, b.1, c.scan-all.ensures)

pub returns : goal.returns
returns c = leap_far c.args.part.now c.args.seen c.behind_deciders-bytes.result c.behind_deciders-bytes.ensures c.if-bytes-seen.false c.scan-all.result c.scan-all.ensures c.judge_scanned-verdict.result c.judge_scanned-verdict.ensures (sym c.opens_end.ensures ∙ c.if-not-opens_end.false)

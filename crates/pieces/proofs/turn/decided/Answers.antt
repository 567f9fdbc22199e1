use Prim.Native.Nat.{◌+◌, ◌-◌}
use native.Mathlib.Omega.{arith}
use mathlib.Core.Path.{◌∙◌}
use lib.ListN.{drop}
use Rattle.pieces.proofs.FrontLaws.{gap_take}
use Rattle.pieces.proofs.TurnLaws.{by_gives, by_nothing, by_shuts, by_shuts_none, decided_past, decided_waits, small_gives, small_shuts, waited_fits, window_fits}
use Rattle.pieces.proofs.turn.decided.Goals as goal

pub returns-then-to-here : goal.returns-then-to-here
returns-then-to-here c = c.undecided.ensures ∙ decided_past c.args.s.now c.args.at c.args.start c.args.seen c.later-here.result c.sooner-to.result c.later-here.ensures c.sooner-to.ensures c.if-to-here.true

pub slice_bounds-stride-count : goal.slice_bounds-stride-count
slice_bounds-stride-count c = let f = (window_fits c.args.s.now c.args.start c.args.seen c.later-here.result c.sooner-to.result c.later-here.ensures c.sooner-to.ensures c.requires.0 c.requires.1 c.if-to-here.false) in omega (arith, f.2, f.3)

pub slice_bounds-stride-start : goal.slice_bounds-stride-start
slice_bounds-stride-start c = let f = (window_fits c.args.s.now c.args.start c.args.seen c.later-here.result c.sooner-to.result c.later-here.ensures c.sooner-to.ensures c.requires.0 c.requires.1 c.if-to-here.false) in omega (arith, f.2, f.3, f.4)

pub slice_bounds-stride-end : goal.slice_bounds-stride-end
slice_bounds-stride-end c = let f = (window_fits c.args.s.now c.args.start c.args.seen c.later-here.result c.sooner-to.result c.later-here.ensures c.sooner-to.ensures c.requires.0 c.requires.1 c.if-to-here.false) in omega (arith, f.2, f.3, f.4)

pub overflow_sub-here : goal.overflow_sub-here
overflow_sub-here c = let f = (window_fits c.args.s.now c.args.start c.args.seen c.later-here.result c.sooner-to.result c.later-here.ensures c.sooner-to.ensures c.requires.0 c.requires.1 c.if-to-here.false) in f.3

pub stride-waited-requires : goal.stride-waited-requires
stride-waited-requires c = let f = (window_fits c.args.s.now c.args.start c.args.seen c.later-here.result c.sooner-to.result c.later-here.ensures c.sooner-to.ensures c.requires.0 c.requires.1 c.if-to-here.false) in (omega (arith, f.0, f.2), omega (arith, f.0, f.1), gap_take (drop c.args.start c.args.s.now) (c.sooner-to.result - c.args.start) c.requires.3)

pub overflow_add-bytes : goal.overflow_add-bytes
overflow_add-bytes c = let w = (waited_fits c.args.s.now c.args.start c.args.seen c.later-here.result c.sooner-to.result c.stride-waited.result c.later-here.ensures c.sooner-to.ensures c.requires.0 c.requires.1 c.if-to-here.false c.stride-waited.ensures) in omega (arith, w.0, c.requires.0, c.requires.2)

pub overflow_add-result : goal.overflow_add-result
overflow_add-result c = let w = (waited_fits c.args.s.now c.args.start c.args.seen c.later-here.result c.sooner-to.result c.stride-waited.result c.later-here.ensures c.sooner-to.ensures c.requires.0 c.requires.1 c.if-to-here.false c.stride-waited.ensures) in omega (arith, small_gives c.args.s.now c.args.at c.args.start c.args.seen (c.args.start + c.stride-waited.result.bytes) c.stride-waited.result.verdict _ _ w.1 c.in-Gives.is, c.requires.0, c.requires.2)

pub placed_behind-requires : goal.placed_behind-requires
placed_behind-requires c = let w = (waited_fits c.args.s.now c.args.start c.args.seen c.later-here.result c.sooner-to.result c.stride-waited.result c.later-here.ensures c.sooner-to.ensures c.requires.0 c.requires.1 c.if-to-here.false c.stride-waited.ensures) in omega (arith, (small_shuts c.args.s.now c.args.at c.args.start c.args.seen (c.args.start + c.stride-waited.result.bytes) c.stride-waited.result.verdict _ _ _ w.1 c.in-Shuts.is).1, c.requires.0, c.requires.2)

pub returns-then-n-eq0 : goal.returns-then-n-eq0
returns-then-n-eq0 c = by_shuts_none c.args.s.now c.args.at c.args.start c.args.seen (c.args.start + c.stride-waited.result.bytes) c.stride-waited.result.verdict _ _ _ _ c.in-Shuts.is c.if-n-eq0.true c.placed_behind.ensures ∙ decided_waits c.args.s.now c.args.at c.args.start c.args.seen c.later-here.result c.sooner-to.result c.stride-waited.result c.later-here.ensures c.sooner-to.ensures c.if-to-here.false c.stride-waited.ensures

pub overflow_add-result-in-Shuts : goal.overflow_add-result-in-Shuts
overflow_add-result-in-Shuts c = let w = (waited_fits c.args.s.now c.args.start c.args.seen c.later-here.result c.sooner-to.result c.stride-waited.result c.later-here.ensures c.sooner-to.ensures c.requires.0 c.requires.1 c.if-to-here.false c.stride-waited.ensures) in omega (arith, (small_shuts c.args.s.now c.args.at c.args.start c.args.seen (c.args.start + c.stride-waited.result.bytes) c.stride-waited.result.verdict _ _ _ w.1 c.in-Shuts.is).0, c.requires.0, c.requires.2)

pub returns-in-Nothing : goal.returns-in-Nothing
returns-in-Nothing c = c.undecided-in-Nothing.ensures ∙ by_nothing c.args.s.now c.args.at c.args.start c.args.seen (c.args.start + c.stride-waited.result.bytes) c.stride-waited.result.verdict c.in-Nothing.is ∙ decided_waits c.args.s.now c.args.at c.args.start c.args.seen c.later-here.result c.sooner-to.result c.stride-waited.result c.later-here.ensures c.sooner-to.ensures c.if-to-here.false c.stride-waited.ensures

pub returns-in-Gives : goal.returns-in-Gives
returns-in-Gives c = by_gives c.args.s.now c.args.at c.args.start c.args.seen (c.args.start + c.stride-waited.result.bytes) c.stride-waited.result.verdict _ _ c.in-Gives.is ∙ decided_waits c.args.s.now c.args.at c.args.start c.args.seen c.later-here.result c.sooner-to.result c.stride-waited.result c.later-here.ensures c.sooner-to.ensures c.if-to-here.false c.stride-waited.ensures

pub returns-else-n-eq0 : goal.returns-else-n-eq0
returns-else-n-eq0 c = by_shuts c.args.s.now c.args.at c.args.start c.args.seen (c.args.start + c.stride-waited.result.bytes) c.stride-waited.result.verdict _ _ _ _ c.in-Shuts.is c.if-n-eq0.false c.placed_behind.ensures ∙ decided_waits c.args.s.now c.args.at c.args.start c.args.seen c.later-here.result c.sooner-to.result c.stride-waited.result c.later-here.ensures c.sooner-to.ensures c.if-to-here.false c.stride-waited.ensures

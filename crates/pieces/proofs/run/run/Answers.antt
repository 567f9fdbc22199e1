use native.Mathlib.Omega.{arith}
use Rattle.pieces.proofs.RunLaws.{run_few, run_first, run_goes, run_stops, stop_few, turn_goes, turn_stops}
use Rattle.pieces.proofs.TurnLaws.{turn_means}
use Rattle.pieces.proofs.run.run.Goals as goal

pub loop-n-init : goal.loop-n-init
loop-n-init c = run_first c.args.s.now c.args.from c.args.kept c.args.whole c.later-seen.result c.later-seen.ensures c.requires.0 c.requires.1 c.requires.2

pub turn-turned-requires : goal.turn-turned-requires
turn-turned-requires c = (c.loop-n.invariant.0, c.requires.1, c.loop-n.invariant.2, c.requires.3, c.requires.4)

pub overflow_add-count : goal.overflow_add-count
overflow_add-count c = let g = turn_goes c.args.s.now c.loop-n.at c.loop-n.seen c.args.whole c.turn-turned.result _ _ _ c.turn-turned.ensures c.in-On.is (turn_means c.args.s.now c.loop-n.at c.loop-n.seen c.args.whole c.loop-n.invariant.1 c.loop-n.invariant.2 c.loop-n.invariant.0 c.requires.1 c.requires.4) in let k = run_goes c.args.s.now c.args.from c.args.kept c.requires.2 (omega (arith, c.requires.0, c.requires.1)) c.loop-n.seen c.loop-n.at c.loop-n.count c.loop-n.invariant.3 c.args.whole _ _ _ g in omega (arith, run_few c.args.s.now c.args.from c.args.kept c.requires.2 (omega (arith, c.requires.0, c.requires.1)) _ _ _ k (omega (arith, g.inside, c.requires.1)), c.requires.3)

pub loop-n-smaller : goal.loop-n-smaller
loop-n-smaller c = let g = turn_goes c.args.s.now c.loop-n.at c.loop-n.seen c.args.whole c.turn-turned.result _ _ _ c.turn-turned.ensures c.in-On.is (turn_means c.args.s.now c.loop-n.at c.loop-n.seen c.args.whole c.loop-n.invariant.1 c.loop-n.invariant.2 c.loop-n.invariant.0 c.requires.1 c.requires.4) in omega (arith, g.further, g.inside, c.requires.1)

pub loop-n-preserved : goal.loop-n-preserved
loop-n-preserved c = let g = turn_goes c.args.s.now c.loop-n.at c.loop-n.seen c.args.whole c.turn-turned.result _ _ _ c.turn-turned.ensures c.in-On.is (turn_means c.args.s.now c.loop-n.at c.loop-n.seen c.args.whole c.loop-n.invariant.1 c.loop-n.invariant.2 c.loop-n.invariant.0 c.requires.1 c.requires.4) in (omega (arith, g.held, g.inside), g.held, omega (arith, g.inside, c.requires.1), run_goes c.args.s.now c.args.from c.args.kept c.requires.2 (omega (arith, c.requires.0, c.requires.1)) c.loop-n.seen c.loop-n.at c.loop-n.count c.loop-n.invariant.3 c.args.whole _ _ _ g)

pub overflow_add-count-in-Over : goal.overflow_add-count-in-Over
overflow_add-count-in-Over c = let g = turn_stops c.args.s.now c.loop-n.at c.loop-n.seen c.args.whole c.turn-turned.result _ _ _ _ c.turn-turned.ensures c.in-Over.is (turn_means c.args.s.now c.loop-n.at c.loop-n.seen c.args.whole c.loop-n.invariant.1 c.loop-n.invariant.2 c.loop-n.invariant.0 c.requires.1 c.requires.4) in omega (arith, stop_few c.args.s.now c.args.from c.args.kept c.requires.2 (omega (arith, c.requires.0, c.requires.1)) c.loop-n.seen c.loop-n.at c.loop-n.count c.loop-n.invariant.3 c.args.whole _ _ _ _ g c.loop-n.invariant.2, c.requires.3)

pub returns-in-Over : goal.returns-in-Over
returns-in-Over c = run_stops c.args.s.now c.args.from c.args.kept c.requires.2 (omega (arith, c.requires.0, c.requires.1)) c.loop-n.seen c.loop-n.at c.loop-n.count c.loop-n.invariant.3 c.args.whole _ _ _ _ (turn_stops c.args.s.now c.loop-n.at c.loop-n.seen c.args.whole c.turn-turned.result _ _ _ _ c.turn-turned.ensures c.in-Over.is (turn_means c.args.s.now c.loop-n.at c.loop-n.seen c.args.whole c.loop-n.invariant.1 c.loop-n.invariant.2 c.loop-n.invariant.0 c.requires.1 c.requires.4)) c.loop-n.invariant.2

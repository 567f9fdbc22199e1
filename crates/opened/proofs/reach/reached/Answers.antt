use native.Mathlib.Omega.{arith}
use Rattle.read.proofs.ReadSteps.{step_token, step_within, step_stop, step_refuse}
use Rattle.opened.proofs.ReachLaws.{reach_starts, reach_token, reach_complete, reach_broken, reach_out}
use Rattle.opened.proofs.reach.reached.Goals as goal

pub loop-at-init : goal.loop-at-init
loop-at-init c = (omega arith, reach_starts c.args.text.now)

pub overflow_add-start : goal.overflow_add-start
overflow_add-start c =
    let w = step_within c.args.text.now c.loop-at.at _ c.next_token-found.ensures _ _ c.in-Token.is in
    omega (arith, w.0, w.1)

pub overflow_add-at : goal.overflow_add-at
overflow_add-at c =
    let w = step_within c.args.text.now c.loop-at.at _ c.next_token-found.ensures _ _ c.in-Token.is in
    omega (arith, w.0, w.1)

pub loop-at-smaller : goal.loop-at-smaller
loop-at-smaller c =
    let w = step_within c.args.text.now c.loop-at.at _ c.next_token-found.ensures _ _ c.in-Token.is in
    omega (arith, w.0, w.1)

pub loop-at-preserved : goal.loop-at-preserved
loop-at-preserved c =
    let w = step_within c.args.text.now c.loop-at.at _ c.next_token-found.ensures _ _ c.in-Token.is in
    (w.1, reach_token c.args.text.now c.loop-at.at c.loop-at.invariant.1 _ (step_token c.args.text.now c.loop-at.at _ c.next_token-found.ensures _ _ c.in-Token.is))

pub returns-in-End : goal.returns-in-End
returns-in-End c = reach_complete c.args.text.now c.loop-at.at c.loop-at.invariant.1 (step_stop c.args.text.now c.loop-at.at _ c.next_token-found.ensures c.in-End.is)

pub returns-in-Refused : goal.returns-in-Refused
returns-in-Refused c = reach_broken c.args.text.now c.loop-at.at c.loop-at.invariant.1 _ (step_refuse c.args.text.now c.loop-at.at _ c.next_token-found.ensures _ c.in-Refused.is)

pub returns : goal.returns
returns c = reach_out c.args.text.now c.loop-at.at c.loop-at.invariant.1 c.loop-at-test.false

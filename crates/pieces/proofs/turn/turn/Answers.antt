use native.Mathlib.Omega.{arith}
use mathlib.Core.Path.{◌∙◌}
use Rattle.pieces.proofs.TurnLaws.{begins_at, odd_at, turn_is}
use Rattle.pieces.proofs.turn.turn.Goals as goal

pub overflow_add-at : goal.overflow_add-at
overflow_add-at c = let o = odd_at c.args.s.now c.args.at c.args.seen c.args.whole c.pass_gap-gap.result c.pass_gap-gap.ensures _ c.in-Unexpected.is c.requires.1 c.requires.0 in omega (arith, o.1, c.requires.3)

pub behind_slash-requires : goal.behind_slash-requires
behind_slash-requires c = let o = odd_at c.args.s.now c.args.at c.args.seen c.args.whole c.pass_gap-gap.result c.pass_gap-gap.ensures _ c.in-Unexpected.is c.requires.1 c.requires.0 in (o.0, o.1, c.requires.2, c.requires.3)

pub overflow_add-at-in-Begins : goal.overflow_add-at-in-Begins
overflow_add-at-in-Begins c = let b = begins_at c.args.s.now c.args.at c.args.seen c.args.whole c.pass_gap-gap.result c.pass_gap-gap.ensures _ c.in-Begins.is c.requires.1 c.requires.0 c.requires.4 in omega (arith, b.0, c.requires.3)

pub decided-requires : goal.decided-requires
decided-requires c = let b = begins_at c.args.s.now c.args.at c.args.seen c.args.whole c.pass_gap-gap.result c.pass_gap-gap.ensures _ c.in-Begins.is c.requires.1 c.requires.0 c.requires.4 in (b.0, c.requires.2, c.requires.3, b.1)

pub returns-in-Within : goal.returns-in-Within
returns-in-Within c = turn_is c.args.s.now c.args.at c.args.seen c.args.whole c.pass_gap-gap.result c.pass_gap-gap.ensures _ c.in-Within.is

pub returns-in-Unexpected : goal.returns-in-Unexpected
returns-in-Unexpected c = c.behind_slash.ensures ∙ turn_is c.args.s.now c.args.at c.args.seen c.args.whole c.pass_gap-gap.result c.pass_gap-gap.ensures _ c.in-Unexpected.is

pub returns-in-Begins : goal.returns-in-Begins
returns-in-Begins c = c.decided.ensures ∙ turn_is c.args.s.now c.args.at c.args.seen c.args.whole c.pass_gap-gap.result c.pass_gap-gap.ensures _ c.in-Begins.is

use mathlib.Core.Path.{◌∙◌, sym}
use Rattle.pieces.proofs.JudgeLaws.{judge_before, judge_behind, judge_closed, judge_nothing, judge_some, judge_within}
use Rattle.pieces.proofs.judge.judge_scanned.Goals as goal

pub returns-then-is_closer : goal.returns-then-is_closer
returns-then-is_closer c = c.gives.ensures ∙ judge_closed c.args.part.now c.args.s c.requires.2 c.if-s-part.true (sym c.is_closer.ensures ∙ c.if-is_closer.true)

pub overflow_sub-s : goal.overflow_sub-s
overflow_sub-s c = judge_some c.args.part.now c.args.s c.requires.2 c.if-s-part.true c.requires.0

pub returns-then-is_decider : goal.returns-then-is_decider
returns-then-is_decider c = c.gives-then-is_decider.ensures ∙ judge_before c.args.part.now c.args.s c.requires.2 c.if-s-part.true c.requires.0 (sym c.is_closer.ensures ∙ c.if-is_closer.false) (sym c.is_decider.ensures ∙ c.if-is_decider.true)

pub returns-then-s-part : goal.returns-then-s-part
returns-then-s-part c = judge_nothing c.args.part.now c.args.s c.requires.2 c.if-s-part.true (sym c.is_closer.ensures ∙ c.if-is_closer.false) (sym c.is_decider.ensures ∙ c.if-is_decider.false)

pub behind_entries-requires : goal.behind_entries-requires
behind_entries-requires c = (c.requires.0, judge_within c.args.part.now c.args.s c.requires.2)

pub returns : goal.returns
returns c = c.behind_entries.ensures ∙ judge_behind c.args.part.now c.args.s c.requires.2 c.requires.1 c.if-s-part.false

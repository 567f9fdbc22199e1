use mathlib.Core.Path.{◌∙◌, sym}
use Rattle.settled.specs.Settled.{ron_settles}
use Rattle.text.proofs.Lists.{on_part}
use Rattle.pieces.proofs.JudgeLaws.{broken_gives, broken_keeps, broken_shuts, whole_gives, whole_keeps}
use Rattle.pieces.proofs.judge.behind_entries.Goals as goal

pub returns-then-is_decider : goal.returns-then-is_decider
returns-then-is_decider c = c.gives.ensures ∙ whole_gives c.args.part.now c.args.s c.in-Ok.is (sym c.is_decider.ensures ∙ c.if-is_decider.true)

pub returns-then-settles : goal.returns-then-settles
returns-then-settles c = broken_shuts c.args.part.now c.args.s _ c.in-Err.is (on_part ron_settles c.args.part.now c.args.s.end _ _ c.settles.ensures c.if-settles.true)

pub returns-then-is_decider-2 : goal.returns-then-is_decider-2
returns-then-is_decider-2 c = c.gives-then-is_decider-2.ensures ∙ broken_gives c.args.part.now c.args.s _ c.in-Err.is (on_part ron_settles c.args.part.now c.args.s.end _ _ c.settles.ensures c.if-settles.false) (sym c.is_decider-in-Err.ensures ∙ c.if-is_decider-2.true)

pub returns-else-is_decider : goal.returns-else-is_decider
returns-else-is_decider c = whole_keeps c.args.part.now c.args.s c.in-Ok.is (sym c.is_decider.ensures ∙ c.if-is_decider.false)

pub returns-else-is_decider-2 : goal.returns-else-is_decider-2
returns-else-is_decider-2 c = broken_keeps c.args.part.now c.args.s _ c.in-Err.is (on_part ron_settles c.args.part.now c.args.s.end _ _ c.settles.ensures c.if-settles.false) (sym c.is_decider-in-Err.ensures ∙ c.if-is_decider-2.false)

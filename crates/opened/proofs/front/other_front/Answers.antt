use native.Mathlib.Omega.{arith}
use mathlib.Core.Path.{◌∙◌}
use Rattle.comments.proofs.GapLaws.{comment_block, comment_ended, comment_line, comment_none, comment_other, comment_unexpected}
use Rattle.comments.specs.declared.gap.Item.TheVariants.{Unexpected, Ended, Other}
use Rattle.opened.proofs.FrontLaws.{other_by}
use borrow.Author.Rules.{rules}
use Rattle.opened.proofs.front.other_front.Goals as goal

pub returns-then-s-eq0 : goal.returns-then-s-eq0
returns-then-s-eq0 c = c.literal_front.ensures ∙ other_by c.args.s.now Other (comment_none _ c.if-s-eq0.true)

pub returns-then-s-ne47 : goal.returns-then-s-ne47
returns-then-s-ne47 c = c.literal_front-then-s-ne47.ensures ∙ other_by c.args.s.now Other (comment_other _ (search rules) c.if-s-ne47.true)

pub returns-then-s-eq1 : goal.returns-then-s-eq1
returns-then-s-eq1 c = other_by c.args.s.now Ended (comment_ended _ c.if-s-eq1.true c.if-s-ne47.false)

pub returns-then-b-eq47 : goal.returns-then-b-eq47
returns-then-b-eq47 c = c.line_front.ensures ∙ other_by c.args.s.now _ (comment_line _ (omega arith) c.if-s-ne47.false c.if-b-eq47.true)

pub returns-then-b-eq42 : goal.returns-then-b-eq42
returns-then-b-eq42 c = c.block_front.ensures ∙ other_by c.args.s.now _ (comment_block _ (omega arith) c.if-s-ne47.false c.if-b-eq42.true)

pub returns : goal.returns
returns c = other_by c.args.s.now (Unexpected _) (comment_unexpected _ (omega arith) c.if-s-ne47.false c.if-b-eq47.false c.if-b-eq42.false)

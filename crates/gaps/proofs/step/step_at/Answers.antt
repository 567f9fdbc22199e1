use mathlib.Core.Path.{◌∙◌, ◌≡◌, ap, sym}
use lib.ListN.{get_or}
use Rattle.comments.proofs.GapLaws.{item_blank, item_comment}
use Rattle.text.specs.Classes.{blank_width}
use Rattle.gaps.specs.inner.Steps.{step_by}
use Rattle.gaps.proofs.step.step_at.Goals as goal

pub returns-then-width-gt0 : goal.returns-then-width-gt0
returns-then-width-gt0 c =
    let width_is : c.blank_width-width.result ≡ blank_width (get_or (c.args.s.now) 0 0) (get_or (c.args.s.now) 1 0) (get_or (c.args.s.now) 2 0) = cc in
    ap (step_by c.args.s.now) (sym (item_blank c.args.s.now _ (width_is) c.if-width-gt0.true))

pub returns : goal.returns
returns c =
    let width_is : c.blank_width-width.result ≡ blank_width (get_or (c.args.s.now) 0 0) (get_or (c.args.s.now) 1 0) (get_or (c.args.s.now) 2 0) = cc in
    c.comment_step.ensures ∙ ap (step_by c.args.s.now) (sym (item_comment c.args.s.now _ (width_is) c.if-width-gt0.false))

use mathlib.Core.Path.{◌≡◌, ◌∙◌}
use lib.ListN.{get_or}
use Rattle.comments.proofs.GapLaws.{item_blank, item_comment}
use Rattle.comments.specs.Gaps.{comment_of}
use Rattle.comments.specs.declared.gap.Item.TheVariants.{Blank}
use Rattle.text.specs.Classes.{blank_width}
use Rattle.opened.proofs.FrontLaws.{front_by}
use Rattle.opened.proofs.front.front_of.Goals as goal

pub returns-then-width-gt0 : goal.returns-then-width-gt0
returns-then-width-gt0 c =
    let width_is : c.blank_width-width.result ≡ blank_width (get_or (c.args.s.now) 0 0) (get_or (c.args.s.now) 1 0) (get_or (c.args.s.now) 2 0) = cc in
    front_by c.args.s.now (Blank _) (item_blank _ _ (width_is) c.if-width-gt0.true)

pub returns : goal.returns
returns c =
    let width_is : c.blank_width-width.result ≡ blank_width (get_or (c.args.s.now) 0 0) (get_or (c.args.s.now) 1 0) (get_or (c.args.s.now) 2 0) = cc in
    c.other_front.ensures ∙ front_by c.args.s.now (comment_of c.args.s.now) (item_comment _ _ (width_is) c.if-width-gt0.false)

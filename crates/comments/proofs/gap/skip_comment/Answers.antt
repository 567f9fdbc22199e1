use Prim.Native.Nat.{◌+◌, ◌-◌, ◌<◌, ℕ}
use native.Mathlib.Omega.{arith}
use mathlib.Core.Path.{◌∙◌, ◌≡◌, ap, subst, sym}
use lib.ListN.{drop, length, length-drop, length-take, take}
use borrow.Author.Rules.{rules}
use Rattle.comments.proofs.BlockLaws.{Bounded, block_end_le}
use Rattle.comments.proofs.GapLaws.{comment_block, comment_ended, comment_line, comment_none, comment_other, comment_unexpected}
use Rattle.comments.proofs.LineLaws.{line_end_le}
use Rattle.comments.specs.Blocks.{block_end}
use Rattle.comments.specs.Gaps.{block_item, comment_of, line_item}
use Rattle.comments.specs.Lines.{line_end}
use Rattle.comments.specs.declared.gap.Item.TheVariants.{Unexpected}
use Rattle.text.proofs.Lists.{tail_part}
use Rattle.text.proofs.Utf8Agree.{char_len_le}
use Rattle.text.specs.Utf8.{char_len}
use Rattle.comments.proofs.gap.skip_comment.Goals as goal

pub returns-then-s-eq0 : goal.returns-then-s-eq0
returns-then-s-eq0 c = sym (comment_none _ c.if-s-eq0.true)

pub returns-then-s-ne47 : goal.returns-then-s-ne47
returns-then-s-ne47 c = sym (comment_other _ (search rules) c.if-s-ne47.true)

pub returns-then-s-eq1 : goal.returns-then-s-eq1
returns-then-s-eq1 c = sym (comment_ended _ c.if-s-eq1.true c.if-s-ne47.false)

pub overflow_add-taken : goal.overflow_add-taken
overflow_add-taken c =
    let line_end : c.line_comment-end.result ≡ line_end (drop 2 (c.args.s.now)) = c.line_comment-end.ensures ∙ ap line_end (tail_part (c.args.s.now) 2) in
    omega (arith, subst (Bounded 0 _) (sym (line_end) ∙ c.in-Some.is) (line_end_le _), length-drop 2 c.args.s.now)

pub returns-in-Some : goal.returns-in-Some
returns-in-Some c =
    let two : 1 < length (c.args.s.now) = omega arith in
    let line_end : c.line_comment-end.result ≡ line_end (drop 2 (c.args.s.now)) = c.line_comment-end.ensures ∙ ap line_end (tail_part (c.args.s.now) 2) in
    let line-item : line_item c.line_comment-end.result ≡ comment_of (c.args.s.now) = ap line_item (line_end) ∙ sym (comment_line (c.args.s.now) (two) c.if-s-ne47.false c.if-b-eq47.true) in
    sym (ap line_item c.in-Some.is) ∙ line-item

pub returns-in-None : goal.returns-in-None
returns-in-None c =
    let two : 1 < length (c.args.s.now) = omega arith in
    let line_end : c.line_comment-end.result ≡ line_end (drop 2 (c.args.s.now)) = c.line_comment-end.ensures ∙ ap line_end (tail_part (c.args.s.now) 2) in
    let line-item : line_item c.line_comment-end.result ≡ comment_of (c.args.s.now) = ap line_item (line_end) ∙ sym (comment_line (c.args.s.now) (two) c.if-s-ne47.false c.if-b-eq47.true) in
    sym (ap line_item c.in-None.is) ∙ line-item

pub overflow_add-taken-in-Some-end : goal.overflow_add-taken-in-Some-end
overflow_add-taken-in-Some-end c =
    let block_end : c.block_comment-end.result ≡ block_end (drop 2 (c.args.s.now)) = c.block_comment-end.ensures ∙ ap block_end (tail_part (c.args.s.now) 2) in
    omega (arith, subst (Bounded 0 _) (sym (block_end) ∙ c.in-Some-end.is) (block_end_le _), length-drop 2 c.args.s.now)

pub returns-in-Some-end : goal.returns-in-Some-end
returns-in-Some-end c =
    let two : 1 < length (c.args.s.now) = omega arith in
    let block_end : c.block_comment-end.result ≡ block_end (drop 2 (c.args.s.now)) = c.block_comment-end.ensures ∙ ap block_end (tail_part (c.args.s.now) 2) in
    let block-item : block_item c.block_comment-end.result ≡ comment_of (c.args.s.now) = ap block_item (block_end) ∙ sym (comment_block (c.args.s.now) (two) c.if-s-ne47.false c.if-b-eq42.true) in
    sym (ap block_item c.in-Some-end.is) ∙ block-item

pub returns-in-None-end : goal.returns-in-None-end
returns-in-None-end c =
    let two : 1 < length (c.args.s.now) = omega arith in
    let block_end : c.block_comment-end.result ≡ block_end (drop 2 (c.args.s.now)) = c.block_comment-end.ensures ∙ ap block_end (tail_part (c.args.s.now) 2) in
    let block-item : block_item c.block_comment-end.result ≡ comment_of (c.args.s.now) = ap block_item (block_end) ∙ sym (comment_block (c.args.s.now) (two) c.if-s-ne47.false c.if-b-eq42.true) in
    sym (ap block_item c.in-None-end.is) ∙ block-item

pub overflow_add-taken-2 : goal.overflow_add-taken-2
overflow_add-taken-2 c = omega (arith, c.char_len-taken.ensures, char_len_le (take (length c.args.s.now - 1) (drop 1 c.args.s.now)), length-take (length c.args.s.now - 1) (drop 1 c.args.s.now), length-drop 1 c.args.s.now)

pub returns : goal.returns
returns c =
    let two : 1 < length (c.args.s.now) = omega arith in
    ap (λ (n : ℕ). Unexpected (1 + n)) (c.char_len-taken.ensures ∙ ap char_len (tail_part c.args.s.now 1))
    ∙ sym (comment_unexpected c.args.s.now (two) c.if-s-ne47.false c.if-b-eq47.false c.if-b-eq42.false)

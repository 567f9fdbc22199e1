use Prim.Native.Nat.{◌+◌, pred}
use native.Mathlib.Omega.{arith}
use mathlib.Core.Path.{◌∙◌, ◌≡◌, ap, refl, sym}
use lib.ListN.{drop, length, length-drop}
use borrow.Author.Rules.{rules}
use Rattle.comments.proofs.GapLaws.{gap_ends, gap_on, gap_out, item_blank1, item_le}
use Rattle.comments.specs.Gaps.{by_item, gap_from, gap_of, item_of}
use Rattle.comments.specs.declared.gap.Gap.TheVariants.{Refused}
use Rattle.comments.specs.declared.gap.Item.{Item}
use Rattle.comments.specs.declared.gap.Item.TheVariants.{Blank, BlockOpen, Ended, LineOpen, Other, Unexpected}
use Rattle.text.proofs.Lists.{tail_part}
use Rattle.comments.proofs.gap.skip_gap.Goals as goal

pub loop-i-init : goal.loop-i-init
unfolding gap_of
loop-i-init c = (search rules, refl)

pub loop-i-preserved-then-is_blank : goal.loop-i-preserved-then-is_blank
loop-i-preserved-then-is_blank c =
    let e = item_blank1 c.args.s.now c.loop-i.i (sym c.is_blank.ensures ∙ c.if-is_blank.true) in
    (search rules, sym (gap_on c.args.s.now c.loop-i.i 1 e) ∙ c.loop-i.invariant.1)

pub overflow_add-i-in-Blank : goal.overflow_add-i-in-Blank
overflow_add-i-in-Blank c =
    let item_is : (r : Item) → c.item_at-item.result ≡ r → item_of (drop (c.loop-i.i) (c.args.s.now)) ≡ r = λ r e. sym (c.item_at-item.ensures ∙ ap item_of (tail_part (c.args.s.now) (c.loop-i.i))) ∙ e in
    let e = item_is (Blank _) c.in-Blank.is in
    omega (arith, item_le c.args.s.now c.loop-i.i _ e, length-drop c.loop-i.i c.args.s.now)

pub loop-i-smaller : goal.loop-i-smaller
loop-i-smaller c =
    let item_is : (r : Item) → c.item_at-item.result ≡ r → item_of (drop (c.loop-i.i) (c.args.s.now)) ≡ r = λ r e. sym (c.item_at-item.ensures ∙ ap item_of (tail_part (c.args.s.now) (c.loop-i.i))) ∙ e in
    let e = item_is (Blank _) c.in-Blank.is in
    omega (arith, item_le c.args.s.now c.loop-i.i _ e, length-drop c.loop-i.i c.args.s.now)

pub loop-i-preserved : goal.loop-i-preserved
loop-i-preserved c =
    let item_is : (r : Item) → c.item_at-item.result ≡ r → item_of (drop (c.loop-i.i) (c.args.s.now)) ≡ r = λ r e. sym (c.item_at-item.ensures ∙ ap item_of (tail_part (c.args.s.now) (c.loop-i.i))) ∙ e in
    let e = item_is (Blank _) c.in-Blank.is in
    (omega (arith, item_le c.args.s.now c.loop-i.i _ e, length-drop c.loop-i.i c.args.s.now), sym (gap_on c.args.s.now c.loop-i.i _ e) ∙ c.loop-i.invariant.1)

pub returns-in-LineOpen : goal.returns-in-LineOpen
returns-in-LineOpen c =
    let item_is : (r : Item) → c.item_at-item.result ≡ r → item_of (drop (c.loop-i.i) (c.args.s.now)) ≡ r = λ r e. sym (c.item_at-item.ensures ∙ ap item_of (tail_part (c.args.s.now) (c.loop-i.i))) ∙ e in
    let ends : (r : Item) → c.item_at-item.result ≡ r → by_item r (λ n. gap_from (drop (c.loop-i.i + 1) (c.args.s.now)) (pred n) (c.loop-i.i + 1)) (c.loop-i.i) (length (c.args.s.now)) ≡ gap_of (c.args.s.now) = λ r e. sym (gap_ends (c.args.s.now) (c.loop-i.i) r c.loop-i-test.true (item_is r e)) ∙ c.loop-i.invariant.1 in
    ends LineOpen c.in-LineOpen.is

pub returns-in-BlockOpen : goal.returns-in-BlockOpen
returns-in-BlockOpen c =
    let item_is : (r : Item) → c.item_at-item.result ≡ r → item_of (drop (c.loop-i.i) (c.args.s.now)) ≡ r = λ r e. sym (c.item_at-item.ensures ∙ ap item_of (tail_part (c.args.s.now) (c.loop-i.i))) ∙ e in
    let ends : (r : Item) → c.item_at-item.result ≡ r → by_item r (λ n. gap_from (drop (c.loop-i.i + 1) (c.args.s.now)) (pred n) (c.loop-i.i + 1)) (c.loop-i.i) (length (c.args.s.now)) ≡ gap_of (c.args.s.now) = λ r e. sym (gap_ends (c.args.s.now) (c.loop-i.i) r c.loop-i-test.true (item_is r e)) ∙ c.loop-i.invariant.1 in
    ap Refused c.unclosed_block_comment.ensures ∙ ends BlockOpen c.in-BlockOpen.is

pub overflow_add-place : goal.overflow_add-place
overflow_add-place c =
    let item_is : (r : Item) → c.item_at-item.result ≡ r → item_of (drop (c.loop-i.i) (c.args.s.now)) ≡ r = λ r e. sym (c.item_at-item.ensures ∙ ap item_of (tail_part (c.args.s.now) (c.loop-i.i))) ∙ e in
    let e = item_is (Unexpected _) c.in-Unexpected.is in
    omega (arith, item_le c.args.s.now c.loop-i.i _ e, length-drop c.loop-i.i c.args.s.now)

pub returns-in-Unexpected : goal.returns-in-Unexpected
returns-in-Unexpected c =
    let item_is : (r : Item) → c.item_at-item.result ≡ r → item_of (drop (c.loop-i.i) (c.args.s.now)) ≡ r = λ r e. sym (c.item_at-item.ensures ∙ ap item_of (tail_part (c.args.s.now) (c.loop-i.i))) ∙ e in
    let ends : (r : Item) → c.item_at-item.result ≡ r → by_item r (λ n. gap_from (drop (c.loop-i.i + 1) (c.args.s.now)) (pred n) (c.loop-i.i + 1)) (c.loop-i.i) (length (c.args.s.now)) ≡ gap_of (c.args.s.now) = λ r e. sym (gap_ends (c.args.s.now) (c.loop-i.i) r c.loop-i-test.true (item_is r e)) ∙ c.loop-i.invariant.1 in
    ap Refused c.unexpected_char.ensures ∙ ends (Unexpected _) c.in-Unexpected.is

pub returns-in-Ended : goal.returns-in-Ended
returns-in-Ended c =
    let item_is : (r : Item) → c.item_at-item.result ≡ r → item_of (drop (c.loop-i.i) (c.args.s.now)) ≡ r = λ r e. sym (c.item_at-item.ensures ∙ ap item_of (tail_part (c.args.s.now) (c.loop-i.i))) ∙ e in
    let ends : (r : Item) → c.item_at-item.result ≡ r → by_item r (λ n. gap_from (drop (c.loop-i.i + 1) (c.args.s.now)) (pred n) (c.loop-i.i + 1)) (c.loop-i.i) (length (c.args.s.now)) ≡ gap_of (c.args.s.now) = λ r e. sym (gap_ends (c.args.s.now) (c.loop-i.i) r c.loop-i-test.true (item_is r e)) ∙ c.loop-i.invariant.1 in
    ap Refused c.eof.ensures ∙ ends Ended c.in-Ended.is

pub returns-in-Other : goal.returns-in-Other
returns-in-Other c =
    let item_is : (r : Item) → c.item_at-item.result ≡ r → item_of (drop (c.loop-i.i) (c.args.s.now)) ≡ r = λ r e. sym (c.item_at-item.ensures ∙ ap item_of (tail_part (c.args.s.now) (c.loop-i.i))) ∙ e in
    let ends : (r : Item) → c.item_at-item.result ≡ r → by_item r (λ n. gap_from (drop (c.loop-i.i + 1) (c.args.s.now)) (pred n) (c.loop-i.i + 1)) (c.loop-i.i) (length (c.args.s.now)) ≡ gap_of (c.args.s.now) = λ r e. sym (gap_ends (c.args.s.now) (c.loop-i.i) r c.loop-i-test.true (item_is r e)) ∙ c.loop-i.invariant.1 in
    ends Other c.in-Other.is

pub returns : goal.returns
returns c = sym (gap_out _ c.loop-i.i c.loop-i-test.false) ∙ c.loop-i.invariant.1

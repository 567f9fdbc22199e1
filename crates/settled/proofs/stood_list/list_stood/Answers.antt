use Prim.Native.Nat.{◌+◌, ℕ}
use native.Mathlib.Omega.{arith}
use mathlib.Core.Path.{◌∙◌, ap, sym}
use lib.ListN.{drop}
use Rattle.attributes.specs.List.{item_of}
use Rattle.attributes.specs.declared.list.Item.{Item}
use Rattle.text.proofs.Lists.{tail_part}
use Rattle.settled.proofs.StoodLaws.{goes_fits, here_fits, list_here, list_on, list_out}
use Rattle.settled.specs.Stood.{by_stood_item, item_stood, list_stood}
use Rattle.settled.proofs.stood_list.list_stood.Goals as goal

pub overflow_add-here : goal.overflow_add-here
overflow_add-here c = omega (arith, here_fits c.args.s.now c.loop-at.at c.loop-at-test.true, c.item_stood.ensures ∙ ap item_stood (tail_part c.args.s.now c.loop-at.at))

pub returns-then-n-eq0 : goal.returns-then-n-eq0
returns-then-n-eq0 c = ap (λ (n : ℕ). c.loop-at.at + n) (c.item_stood.ensures ∙ ap item_stood (tail_part c.args.s.now c.loop-at.at)) ∙ sym (list_here c.args.s.now c.loop-at.at c.loop-at-test.true (sym (c.goes_on-n.ensures ∙ ap (λ (i : Item). by_stood_item i (λ n. n) 0) (c.next_item.ensures ∙ ap item_of (tail_part c.args.s.now c.loop-at.at))) ∙ c.if-n-eq0.true)) ∙ c.loop-at.invariant

pub overflow_add-at : goal.overflow_add-at
overflow_add-at c = omega (arith, goes_fits c.args.s.now c.loop-at.at c.loop-at-test.true (λ e. c.if-n-eq0.false ((c.goes_on-n.ensures ∙ ap (λ (i : Item). by_stood_item i (λ n. n) 0) (c.next_item.ensures ∙ ap item_of (tail_part c.args.s.now c.loop-at.at))) ∙ e)), (c.goes_on-n.ensures ∙ ap (λ (i : Item). by_stood_item i (λ n. n) 0) (c.next_item.ensures ∙ ap item_of (tail_part c.args.s.now c.loop-at.at))))

pub loop-at-preserved : goal.loop-at-preserved
loop-at-preserved c = ap (λ (n : ℕ). list_stood (drop (c.loop-at.at + n) c.args.s.now) 0 (c.loop-at.at + n)) (c.goes_on-n.ensures ∙ ap (λ (i : Item). by_stood_item i (λ n. n) 0) (c.next_item.ensures ∙ ap item_of (tail_part c.args.s.now c.loop-at.at))) ∙ sym (list_on c.args.s.now c.loop-at.at c.loop-at-test.true (λ e. c.if-n-eq0.false ((c.goes_on-n.ensures ∙ ap (λ (i : Item). by_stood_item i (λ n. n) 0) (c.next_item.ensures ∙ ap item_of (tail_part c.args.s.now c.loop-at.at))) ∙ e))) ∙ c.loop-at.invariant

pub returns : goal.returns
returns c = sym (list_out c.args.s.now c.loop-at.at c.loop-at-test.false) ∙ c.loop-at.invariant

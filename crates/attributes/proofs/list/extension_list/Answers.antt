use Rattle.std.proofs.Common.{Ok, Err}
use Prim.Native.Nat.{◌+◌, ◌<◌, pred, ℕ}
use native.Mathlib.Omega.{arith}
use mathlib.Core.Path.{◌∙◌, ◌≡◌, ap, refl, subst, sym}
use lib.ListN.{drop, length-drop}
use Rattle.attributes.proofs.Bounds.{ItemIn}
use Rattle.attributes.proofs.ListLaws.{item_fits, list_last, list_on, list_out}
use Rattle.attributes.proofs.StepLaws.{added_small}
use Rattle.attributes.specs.Extensions.{added_to}
use Rattle.attributes.specs.List.{by_item, item_of, list_from, list_of}
use Rattle.attributes.specs.declared.list.Item.{Item}
use Rattle.attributes.specs.declared.list.Item.TheVariants.{Last, More, NoComma, NoName}
use Rattle.attributes.specs.declared.list.Item.TheVariants as items
use Rattle.text.proofs.Lists.{tail_part}
use Rattle.attributes.proofs.list.extension_list.Goals as goal

pub loop-at-init : goal.loop-at-init
unfolding list_of
loop-at-init c = (omega arith, refl)

pub add-extensions-requires : goal.add-extensions-requires
add-extensions-requires c = c.loop-at.invariant.0

pub overflow_add-at : goal.overflow_add-at
overflow_add-at c =
    let item_le : (r : Item) → c.next_item-found.result ≡ r → ItemIn (drop (c.loop-at.at) (c.args.s.now)) r = λ r e. item_fits (c.args.s.now) (c.loop-at.at) r (sym e ∙ c.next_item-found.ensures) in
    omega (arith, (item_le (More _ _) c.in-More.is).1, length-drop c.loop-at.at c.args.s.now, c.loop-at-test.true)

pub loop-at-smaller : goal.loop-at-smaller
loop-at-smaller c =
    let item_le : (r : Item) → c.next_item-found.result ≡ r → ItemIn (drop (c.loop-at.at) (c.args.s.now)) r = λ r e. item_fits (c.args.s.now) (c.loop-at.at) r (sym e ∙ c.next_item-found.ensures) in
    omega (arith, (item_le (More _ _) c.in-More.is).0, (item_le (More _ _) c.in-More.is).1, length-drop c.loop-at.at c.args.s.now, c.loop-at-test.true)

pub loop-at-preserved : goal.loop-at-preserved
loop-at-preserved c =
    let item_is : (r : Item) → c.next_item-found.result ≡ r → item_of (drop (c.loop-at.at) (c.args.s.now)) ≡ r = λ r e. sym (c.next_item-found.ensures ∙ ap item_of (tail_part (c.args.s.now) (c.loop-at.at))) ∙ e in
    (subst (λ (n : ℕ). n < 16) (sym c.add-extensions.ensures) (added_small c.in-More.e c.loop-at.extensions c.loop-at.invariant.0), ap (list_from (drop (c.loop-at.at + c.in-More.n) c.args.s.now) 0 (c.loop-at.at + c.in-More.n)) c.add-extensions.ensures ∙ sym (list_on c.args.s.now c.loop-at.at c.loop-at.extensions _ _ (item_is (More _ _) c.in-More.is)) ∙ c.loop-at.invariant.1)

pub overflow_add-end : goal.overflow_add-end
overflow_add-end c =
    let item_le : (r : Item) → c.next_item-found.result ≡ r → ItemIn (drop (c.loop-at.at) (c.args.s.now)) r = λ r e. item_fits (c.args.s.now) (c.loop-at.at) r (sym e ∙ c.next_item-found.ensures) in
    omega (arith, (item_le (Last _ _) c.in-Last.is).1, length-drop c.loop-at.at c.args.s.now, c.loop-at-test.true)

pub add-requires : goal.add-requires
add-requires c = c.loop-at.invariant.0

pub returns-in-Last : goal.returns-in-Last
returns-in-Last c =
    let item_is : (r : Item) → c.next_item-found.result ≡ r → item_of (drop (c.loop-at.at) (c.args.s.now)) ≡ r = λ r e. sym (c.next_item-found.ensures ∙ ap item_of (tail_part (c.args.s.now) (c.loop-at.at))) ∙ e in
    let ends : (r : Item) → c.next_item-found.result ≡ r → by_item r (λ n e. list_from (drop (c.loop-at.at + 1) (c.args.s.now)) (pred n) (c.loop-at.at + 1) (added_to e (c.loop-at.extensions))) (c.loop-at.at) (c.loop-at.extensions) ≡ list_of (c.args.s.now) c.args.start = λ r e. sym (list_last (c.args.s.now) (c.loop-at.at) (c.loop-at.extensions) r c.loop-at-test.true (item_is r e)) ∙ c.loop-at.invariant.1 in
    ap (λ (y : ℕ). Ok (c.loop-at.at + c.in-Last.n, y)) c.add.ensures ∙ ends (Last _ _) c.in-Last.is

pub returns-in-NoName : goal.returns-in-NoName
returns-in-NoName c =
    let item_is : (r : Item) → c.next_item-found.result ≡ r → item_of (drop (c.loop-at.at) (c.args.s.now)) ≡ r = λ r e. sym (c.next_item-found.ensures ∙ ap item_of (tail_part (c.args.s.now) (c.loop-at.at))) ∙ e in
    let ends : (r : Item) → c.next_item-found.result ≡ r → by_item r (λ n e. list_from (drop (c.loop-at.at + 1) (c.args.s.now)) (pred n) (c.loop-at.at + 1) (added_to e (c.loop-at.extensions))) (c.loop-at.at) (c.loop-at.extensions) ≡ list_of (c.args.s.now) c.args.start = λ r e. sym (list_last (c.args.s.now) (c.loop-at.at) (c.loop-at.extensions) r c.loop-at-test.true (item_is r e)) ∙ c.loop-at.invariant.1 in
    ap Err c.no_such_extension.ensures ∙ ends NoName c.in-NoName.is

pub returns-in-NoComma : goal.returns-in-NoComma
returns-in-NoComma c =
    let item_is : (r : Item) → c.next_item-found.result ≡ r → item_of (drop (c.loop-at.at) (c.args.s.now)) ≡ r = λ r e. sym (c.next_item-found.ensures ∙ ap item_of (tail_part (c.args.s.now) (c.loop-at.at))) ∙ e in
    let ends : (r : Item) → c.next_item-found.result ≡ r → by_item r (λ n e. list_from (drop (c.loop-at.at + 1) (c.args.s.now)) (pred n) (c.loop-at.at + 1) (added_to e (c.loop-at.extensions))) (c.loop-at.at) (c.loop-at.extensions) ≡ list_of (c.args.s.now) c.args.start = λ r e. sym (list_last (c.args.s.now) (c.loop-at.at) (c.loop-at.extensions) r c.loop-at-test.true (item_is r e)) ∙ c.loop-at.invariant.1 in
    ap Err c.expected_attribute_end.ensures ∙ ends NoComma c.in-NoComma.is

pub placed_behind-requires : goal.placed_behind-requires
placed_behind-requires c =
    let item_le : (r : Item) → c.next_item-found.result ≡ r → ItemIn (drop (c.loop-at.at) (c.args.s.now)) r = λ r e. item_fits (c.args.s.now) (c.loop-at.at) r (sym e ∙ c.next_item-found.ensures) in
    omega (arith, item_le (items.Refused _) c.in-Refused.is, length-drop c.loop-at.at c.args.s.now, c.loop-at-test.true)

pub returns-in-Refused : goal.returns-in-Refused
returns-in-Refused c =
    let item_is : (r : Item) → c.next_item-found.result ≡ r → item_of (drop (c.loop-at.at) (c.args.s.now)) ≡ r = λ r e. sym (c.next_item-found.ensures ∙ ap item_of (tail_part (c.args.s.now) (c.loop-at.at))) ∙ e in
    let ends : (r : Item) → c.next_item-found.result ≡ r → by_item r (λ n e. list_from (drop (c.loop-at.at + 1) (c.args.s.now)) (pred n) (c.loop-at.at + 1) (added_to e (c.loop-at.extensions))) (c.loop-at.at) (c.loop-at.extensions) ≡ list_of (c.args.s.now) c.args.start = λ r e. sym (list_last (c.args.s.now) (c.loop-at.at) (c.loop-at.extensions) r c.loop-at-test.true (item_is r e)) ∙ c.loop-at.invariant.1 in
    ap Err c.placed_behind.ensures ∙ ends (items.Refused _) c.in-Refused.is

pub returns : goal.returns
returns c = ap Err c.eof.ensures ∙ sym (list_out c.args.s.now c.loop-at.at c.loop-at.extensions c.loop-at-test.false) ∙ c.loop-at.invariant.1

use Rattle.std.proofs.Common.{Err}
use mathlib.Core.Path.{◌≡◌, ◌∙◌, refl, sym}
use Rattle.sarridok.proofs.ItemLaws.{items_end, judge_passes, judge_stops}
use borrow.Author.Rules.{rules}
use Rattle.sarridok.proofs.items.judge_items.Goals as goal

pub loop-k-init : goal.loop-k-init
loop-k-init c = refl

pub returns-in_err-item_at : goal.returns-in_err-item_at
returns-in_err-item_at c =
    let e : c.from_residual.result ≡ Err c.in_err-item_at.field-0.0 = search rules in
    e ∙ sym (judge_stops c.args.text.now c.args.tape.now c.args.count c.args.items.now c.loop-k.k _ c.loop-k-test.true c.in_err-item_at.ensures) ∙ c.loop-k.invariant

pub loop-k-preserved : goal.loop-k-preserved
loop-k-preserved c = sym (judge_passes c.args.text.now c.args.tape.now c.args.count c.args.items.now c.loop-k.k _ c.loop-k-test.true c.in_ok-item_at.ensures) ∙ c.loop-k.invariant

pub returns : goal.returns
returns c = sym (items_end c.args.text.now c.args.tape.now c.args.count c.args.items.now c.loop-k.k c.loop-k-test.false) ∙ c.loop-k.invariant

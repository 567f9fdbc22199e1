use Prim.Native.Nat.{◌<◌}
use native.Mathlib.Omega.{arith}
use mathlib.Core.Path.{◌≡◌, ap, refl, sym, ◌∙◌}
use lib.ListN.{drop, length, length-drop}
use Rattle.text.proofs.Lists.{tail_part}
use Rattle.opened.specs.Fronts.{front_of}
use Rattle.opened.specs.declared.front.Front.{Front}
use Rattle.opened.specs.declared.front.Front.TheVariants.{Passes, OpenComment, OpenString}
use Rattle.opened.proofs.BegunLaws.{front_within, begun_on, begun_ends, begun_out}
use Rattle.opened.proofs.begun.begun_from.Goals as goal

pub loop-at-init : goal.loop-at-init
loop-at-init c = refl

pub overflow_add-at : goal.overflow_add-at
overflow_add-at c =
    let inside : c.loop-at.at < length (c.args.text.now) = c.loop-at-test.true in
    let found : (r : Front) → c.front_of-found.result ≡ r → front_of (drop (c.loop-at.at) (c.args.text.now)) ≡ r = λ r e. sym (c.front_of-found.ensures ∙ ap front_of (tail_part (c.args.text.now) (c.loop-at.at))) ∙ e in
    omega (arith, front_within c.args.text.now c.loop-at.at (inside) (Passes _) (found _ c.in-Passes.is), length-drop c.loop-at.at c.args.text.now)

pub loop-at-smaller : goal.loop-at-smaller
loop-at-smaller c =
    let inside : c.loop-at.at < length (c.args.text.now) = c.loop-at-test.true in
    let found : (r : Front) → c.front_of-found.result ≡ r → front_of (drop (c.loop-at.at) (c.args.text.now)) ≡ r = λ r e. sym (c.front_of-found.ensures ∙ ap front_of (tail_part (c.args.text.now) (c.loop-at.at))) ∙ e in
    omega (arith, front_within c.args.text.now c.loop-at.at (inside) (Passes _) (found _ c.in-Passes.is), length-drop c.loop-at.at c.args.text.now)

pub loop-at-preserved : goal.loop-at-preserved
loop-at-preserved c =
    let inside : c.loop-at.at < length (c.args.text.now) = c.loop-at-test.true in
    let found : (r : Front) → c.front_of-found.result ≡ r → front_of (drop (c.loop-at.at) (c.args.text.now)) ≡ r = λ r e. sym (c.front_of-found.ensures ∙ ap front_of (tail_part (c.args.text.now) (c.loop-at.at))) ∙ e in
    sym (begun_on c.args.text.now c.loop-at.at (inside) _ (found _ c.in-Passes.is)) ∙ c.loop-at.invariant

pub returns-in-OpenComment : goal.returns-in-OpenComment
returns-in-OpenComment c =
    let inside : c.loop-at.at < length (c.args.text.now) = c.loop-at-test.true in
    let found : (r : Front) → c.front_of-found.result ≡ r → front_of (drop (c.loop-at.at) (c.args.text.now)) ≡ r = λ r e. sym (c.front_of-found.ensures ∙ ap front_of (tail_part (c.args.text.now) (c.loop-at.at))) ∙ e in
    sym (begun_ends c.args.text.now c.loop-at.at (inside) OpenComment (found _ c.in-OpenComment.is)) ∙ c.loop-at.invariant

pub overflow_add-quote : goal.overflow_add-quote
overflow_add-quote c =
    let inside : c.loop-at.at < length (c.args.text.now) = c.loop-at-test.true in
    let found : (r : Front) → c.front_of-found.result ≡ r → front_of (drop (c.loop-at.at) (c.args.text.now)) ≡ r = λ r e. sym (c.front_of-found.ensures ∙ ap front_of (tail_part (c.args.text.now) (c.loop-at.at))) ∙ e in
    omega (arith, front_within c.args.text.now c.loop-at.at (inside) (OpenString _) (found _ c.in-OpenString.is), length-drop c.loop-at.at c.args.text.now)

pub returns-in-OpenString : goal.returns-in-OpenString
returns-in-OpenString c =
    let inside : c.loop-at.at < length (c.args.text.now) = c.loop-at-test.true in
    let found : (r : Front) → c.front_of-found.result ≡ r → front_of (drop (c.loop-at.at) (c.args.text.now)) ≡ r = λ r e. sym (c.front_of-found.ensures ∙ ap front_of (tail_part (c.args.text.now) (c.loop-at.at))) ∙ e in
    sym (begun_ends c.args.text.now c.loop-at.at (inside) (OpenString _) (found _ c.in-OpenString.is)) ∙ c.loop-at.invariant

pub returns : goal.returns
returns c = sym (begun_out _ c.loop-at.at c.loop-at-test.false) ∙ c.loop-at.invariant

use Prim.Native.Nat.{ℕ}
use Rattle.comments.proofs.GapLaws.{item_blank1}
use Rattle.comments.specs.Gaps.{item_of}
use Rattle.gaps.proofs.PassLaws.{StepSized, after_step, clear_on, clear_out, clear_step, step_sized}
use Rattle.gaps.specs.declared.step.Step.TheVariants as steps
use Rattle.gaps.specs.declared.step.Step.{Step}
use Rattle.gaps.specs.inner.Steps.{clear_at, step_by}
use Rattle.text.proofs.Lists.{tail_part}
use borrow.Author.Rules.{rules}
use lib.ListN.{drop, length-drop}
use mathlib.Core.List.{List}
use mathlib.Core.Path.{◌∙◌, ◌≡◌, ap, subst, sym}
use native.Mathlib.Omega.{arith}
use Rattle.gaps.proofs.pass.from_clear.Goals as goal

pub loop-i-preserved-then-is_blank : goal.loop-i-preserved-then-is_blank
loop-i-preserved-then-is_blank c =
    let s = c.args.s.now in
    let i = c.loop-i.i in
    let e = item_blank1 s i (sym c.is_blank.ensures ∙ c.if-is_blank.true) in
    (search rules, sym (clear_on s i 1 e) ∙ c.loop-i.invariant.1)

pub overflow_add-i-in-On : goal.overflow_add-i-in-On
overflow_add-i-in-On c =
    let step_is : (r : Step) → c.step_at-step.result ≡ r → step_by (drop (c.loop-i.i) (c.args.s.now)) (item_of (drop (c.loop-i.i) (c.args.s.now))) ≡ r = λ r e. sym (c.step_at-step.ensures ∙ ap (λ (t : List ℕ). step_by t (item_of t)) (tail_part (c.args.s.now) (c.loop-i.i))) ∙ e in
    let sized : (r : Step) → c.step_at-step.result ≡ r → StepSized (drop (c.loop-i.i) (c.args.s.now)) r = λ r e. subst (StepSized (drop (c.loop-i.i) (c.args.s.now))) (step_is r e) (step_sized (drop (c.loop-i.i) (c.args.s.now))) in
    omega (arith, sized (steps.On _) c.in-On.is, length-drop c.loop-i.i c.args.s.now)

pub loop-i-smaller : goal.loop-i-smaller
loop-i-smaller c =
    let step_is : (r : Step) → c.step_at-step.result ≡ r → step_by (drop (c.loop-i.i) (c.args.s.now)) (item_of (drop (c.loop-i.i) (c.args.s.now))) ≡ r = λ r e. sym (c.step_at-step.ensures ∙ ap (λ (t : List ℕ). step_by t (item_of t)) (tail_part (c.args.s.now) (c.loop-i.i))) ∙ e in
    let sized : (r : Step) → c.step_at-step.result ≡ r → StepSized (drop (c.loop-i.i) (c.args.s.now)) r = λ r e. subst (StepSized (drop (c.loop-i.i) (c.args.s.now))) (step_is r e) (step_sized (drop (c.loop-i.i) (c.args.s.now))) in
    omega (arith, sized (steps.On _) c.in-On.is, length-drop c.loop-i.i c.args.s.now)

pub loop-i-preserved : goal.loop-i-preserved
loop-i-preserved c =
    let step_is : (r : Step) → c.step_at-step.result ≡ r → step_by (drop (c.loop-i.i) (c.args.s.now)) (item_of (drop (c.loop-i.i) (c.args.s.now))) ≡ r = λ r e. sym (c.step_at-step.ensures ∙ ap (λ (t : List ℕ). step_by t (item_of t)) (tail_part (c.args.s.now) (c.loop-i.i))) ∙ e in
    let follows : (r : Step) → c.step_at-step.result ≡ r → after_step (c.args.s.now) (c.loop-i.i) r ≡ clear_at (c.args.s.now) c.args.from = λ r e. ap (after_step (c.args.s.now) (c.loop-i.i)) (sym (step_is r e))
    ∙ sym (clear_step (c.args.s.now) (c.loop-i.i) c.loop-i-test.true)
    ∙ c.loop-i.invariant.1 in
    let sized : (r : Step) → c.step_at-step.result ≡ r → StepSized (drop (c.loop-i.i) (c.args.s.now)) r = λ r e. subst (StepSized (drop (c.loop-i.i) (c.args.s.now))) (step_is r e) (step_sized (drop (c.loop-i.i) (c.args.s.now))) in
    (omega (arith, sized (steps.On _) c.in-On.is, length-drop c.loop-i.i c.args.s.now), follows (steps.On _) c.in-On.is)

pub returns-in-Still : goal.returns-in-Still
returns-in-Still c =
    let step_is : (r : Step) → c.step_at-step.result ≡ r → step_by (drop (c.loop-i.i) (c.args.s.now)) (item_of (drop (c.loop-i.i) (c.args.s.now))) ≡ r = λ r e. sym (c.step_at-step.ensures ∙ ap (λ (t : List ℕ). step_by t (item_of t)) (tail_part (c.args.s.now) (c.loop-i.i))) ∙ e in
    let follows : (r : Step) → c.step_at-step.result ≡ r → after_step (c.args.s.now) (c.loop-i.i) r ≡ clear_at (c.args.s.now) c.args.from = λ r e. ap (after_step (c.args.s.now) (c.loop-i.i)) (sym (step_is r e))
    ∙ sym (clear_step (c.args.s.now) (c.loop-i.i) c.loop-i-test.true)
    ∙ c.loop-i.invariant.1 in
    follows (steps.Still _) c.in-Still.is

pub overflow_add-place : goal.overflow_add-place
overflow_add-place c =
    let step_is : (r : Step) → c.step_at-step.result ≡ r → step_by (drop (c.loop-i.i) (c.args.s.now)) (item_of (drop (c.loop-i.i) (c.args.s.now))) ≡ r = λ r e. sym (c.step_at-step.ensures ∙ ap (λ (t : List ℕ). step_by t (item_of t)) (tail_part (c.args.s.now) (c.loop-i.i))) ∙ e in
    let sized : (r : Step) → c.step_at-step.result ≡ r → StepSized (drop (c.loop-i.i) (c.args.s.now)) r = λ r e. subst (StepSized (drop (c.loop-i.i) (c.args.s.now))) (step_is r e) (step_sized (drop (c.loop-i.i) (c.args.s.now))) in
    omega (arith, sized (steps.Odd _) c.in-Odd.is, length-drop c.loop-i.i c.args.s.now)

pub returns-in-Odd : goal.returns-in-Odd
returns-in-Odd c =
    let step_is : (r : Step) → c.step_at-step.result ≡ r → step_by (drop (c.loop-i.i) (c.args.s.now)) (item_of (drop (c.loop-i.i) (c.args.s.now))) ≡ r = λ r e. sym (c.step_at-step.ensures ∙ ap (λ (t : List ℕ). step_by t (item_of t)) (tail_part (c.args.s.now) (c.loop-i.i))) ∙ e in
    let follows : (r : Step) → c.step_at-step.result ≡ r → after_step (c.args.s.now) (c.loop-i.i) r ≡ clear_at (c.args.s.now) c.args.from = λ r e. ap (after_step (c.args.s.now) (c.loop-i.i)) (sym (step_is r e))
    ∙ sym (clear_step (c.args.s.now) (c.loop-i.i) c.loop-i-test.true)
    ∙ c.loop-i.invariant.1 in
    follows (steps.Odd _) c.in-Odd.is

pub returns-in-Begins : goal.returns-in-Begins
returns-in-Begins c =
    let step_is : (r : Step) → c.step_at-step.result ≡ r → step_by (drop (c.loop-i.i) (c.args.s.now)) (item_of (drop (c.loop-i.i) (c.args.s.now))) ≡ r = λ r e. sym (c.step_at-step.ensures ∙ ap (λ (t : List ℕ). step_by t (item_of t)) (tail_part (c.args.s.now) (c.loop-i.i))) ∙ e in
    let follows : (r : Step) → c.step_at-step.result ≡ r → after_step (c.args.s.now) (c.loop-i.i) r ≡ clear_at (c.args.s.now) c.args.from = λ r e. ap (after_step (c.args.s.now) (c.loop-i.i)) (sym (step_is r e))
    ∙ sym (clear_step (c.args.s.now) (c.loop-i.i) c.loop-i-test.true)
    ∙ c.loop-i.invariant.1 in
    follows steps.Begins c.in-Begins.is

pub returns : goal.returns
returns c = sym (clear_out _ c.loop-i.i c.loop-i-test.false) ∙ c.loop-i.invariant.1

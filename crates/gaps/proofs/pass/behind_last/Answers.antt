use Prim.Native.Nat.{◌-◌, pred, ℕ}
use native.Mathlib.Numerals.{add-one}
use native.Mathlib.Omega.{arith}
use mathlib.Core.Path.{◌∙◌, ◌≡◌, ap, sym}
use lib.ListN.{get_or}
use Rattle.comments.specs.Blocks.{decision_of}
use Rattle.comments.specs.declared.block.Decision.{Decision}
use Rattle.comments.specs.declared.block.Decision.TheVariants as decision
use Rattle.gaps.proofs.PassLaws.{after_last, last_decided, last_none}
use Rattle.gaps.specs.Passes.{passed_of}
use Rattle.gaps.specs.inner.Steps.{block_at}
use Rattle.gaps.specs.declared.pass.Passed.TheVariants as passed
use Rattle.gaps.specs.declared.state.Open.TheVariants.{Block}
use borrow.Author.Rules.{rules}
use Rattle.gaps.proofs.pass.behind_last.Goals as goal

pub returns-then-s-eq0 : goal.returns-then-s-eq0
returns-then-s-eq0 c = ap (λ (b : ℕ). passed.Within (Block c.args.around b)) c.mark_byte.ensures ∙ sym (last_none _ _ _ c.if-s-eq0.true)

pub returns-in-Open : goal.returns-in-Open
returns-in-Open c =
    let follows : (x : Decision) → c.decide.result ≡ x → after_last (c.args.s.now) (c.args.around) x ≡ passed_of (Block (c.args.around) (c.args.last)) (c.args.s.now) = λ x e. ap (after_last (c.args.s.now) (c.args.around)) (sym e ∙ c.decide.ensures ∙ ap (decision_of (c.args.last) (get_or (c.args.s.now) 0 0)) (add-one (c.args.around)))
    ∙ sym (last_decided (c.args.around) (c.args.last) (c.args.s.now) (search rules)) in
    c.from_block.ensures ∙ ap (block_at _ 1) (add-one _) ∙ follows decision.Open c.in-Open.is

pub returns-in-CloseLast : goal.returns-in-CloseLast
returns-in-CloseLast c =
    let follows : (x : Decision) → c.decide.result ≡ x → after_last (c.args.s.now) (c.args.around) x ≡ passed_of (Block (c.args.around) (c.args.last)) (c.args.s.now) = λ x e. ap (after_last (c.args.s.now) (c.args.around)) (sym e ∙ c.decide.ensures ∙ ap (decision_of (c.args.last) (get_or (c.args.s.now) 0 0)) (add-one (c.args.around)))
    ∙ sym (last_decided (c.args.around) (c.args.last) (c.args.s.now) (search rules)) in
    c.from_clear.ensures ∙ follows decision.CloseLast c.in-CloseLast.is

pub returns-in-CloseInner : goal.returns-in-CloseInner
returns-in-CloseInner c =
    let follows : (x : Decision) → c.decide.result ≡ x → after_last (c.args.s.now) (c.args.around) x ≡ passed_of (Block (c.args.around) (c.args.last)) (c.args.s.now) = λ x e. ap (after_last (c.args.s.now) (c.args.around)) (sym e ∙ c.decide.ensures ∙ ap (decision_of (c.args.last) (get_or (c.args.s.now) 0 0)) (add-one (c.args.around)))
    ∙ sym (last_decided (c.args.around) (c.args.last) (c.args.s.now) (search rules)) in
    let e : c.args.around - 1 ≡ pred c.args.around = omega arith in
    c.from_block-in-CloseInner.ensures ∙ ap (block_at _ 1) e ∙ follows decision.CloseInner c.in-CloseInner.is

pub returns-in-PassOn : goal.returns-in-PassOn
returns-in-PassOn c =
    let follows : (x : Decision) → c.decide.result ≡ x → after_last (c.args.s.now) (c.args.around) x ≡ passed_of (Block (c.args.around) (c.args.last)) (c.args.s.now) = λ x e. ap (after_last (c.args.s.now) (c.args.around)) (sym e ∙ c.decide.ensures ∙ ap (decision_of (c.args.last) (get_or (c.args.s.now) 0 0)) (add-one (c.args.around)))
    ∙ sym (last_decided (c.args.around) (c.args.last) (c.args.s.now) (search rules)) in
    c.from_block-in-PassOn.ensures ∙ follows decision.PassOn c.in-PassOn.is

use Rattle.std.proofs.lemmas.Result.{err_from_is_err_and}
use Rattle.std.proofs.Common.{Ok, Err}
use Rattle.text.specs.Refusals.{Told}
use Prim.Native.Nat.{ℕ}
use native.Mathlib.Omega.{arith}
use mathlib.Core.Path.{◌∙◌, ◌≡◌, ap, sym}
use borrow.Author.Tests.{eq-eqb, ne_eqb}
use Rattle.structs.proofs.PassLaws.{gap_fits, place_le}
use Rattle.structs.specs.Passes.{past_gap}
use Rattle.structs.specs.Structs.{parenthesized, unless_empty}
use Rattle.structs.proofs.types.in_parens.Goals as goal

pub skip_ws-requires : goal.skip_ws-requires
skip_ws-requires c = omega (arith, c.requires.0, c.requires.1)

pub returns-then-peek-eq41 : goal.returns-then-peek-eq41
unfolding parenthesized unless_empty
returns-then-peek-eq41 c =
    let gap_is : (x : Told ℕ) → c.skip_ws.result ≡ x → past_gap c.args.s.now (Ok 1) ≡ x = λ x e. ap (λ (n : ℕ). past_gap c.args.s.now (Ok n)) (sym c.requires.0) ∙ sym c.skip_ws.ensures ∙ e in
    simp (gap_is (Ok c.in_ok-i.i) c.in_ok-i.was, eq-eqb _ _ (sym c.peek.ensures ∙ c.if-peek-eq41.true))

pub contents-requires : goal.contents-requires
contents-requires c =
    let gap_is : (x : Told ℕ) → c.skip_ws.result ≡ x → past_gap c.args.s.now (Ok 1) ≡ x = λ x e. ap (λ (n : ℕ). past_gap c.args.s.now (Ok n)) (sym c.requires.0) ∙ sym c.skip_ws.ensures ∙ e in
    place_le c.args.s.now _ _ (gap_is (Ok c.in_ok-i.i) c.in_ok-i.was) (gap_fits c.args.s.now (Ok 1) c.requires.1)

pub returns : goal.returns
unfolding parenthesized unless_empty
returns c =
    let gap_is : (x : Told ℕ) → c.skip_ws.result ≡ x → past_gap c.args.s.now (Ok 1) ≡ x = λ x e. ap (λ (n : ℕ). past_gap c.args.s.now (Ok n)) (sym c.requires.0) ∙ sym c.skip_ws.ensures ∙ e in
    simp (gap_is (Ok c.in_ok-i.i) c.in_ok-i.was, ne_eqb _ _ (λ e. c.if-peek-eq41.false (c.peek.ensures ∙ e))) c.contents.ensures

pub returns-in_err-i : goal.returns-in_err-i
unfolding parenthesized
returns-in_err-i c =
    let gap_is : (x : Told ℕ) → c.skip_ws.result ≡ x → past_gap c.args.s.now (Ok 1) ≡ x = λ x e. ap (λ (n : ℕ). past_gap c.args.s.now (Ok n)) (sym c.requires.0) ∙ sym c.skip_ws.ensures ∙ e in
    let p = err_from_is_err_and c.from_residual.result c.from_residual.ensures.1 in
    p.1 ∙ ap Err p.2 ∙ simp (gap_is (Err _) c.in_err-i.was)

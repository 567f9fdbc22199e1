use Prim.Native.Nat.{ℕ}
use native.Mathlib.Omega.{arith}
use mathlib.Core.Path.{◌≡◌, ap, ap₂, sym, ◌∙◌}
use lib.ListN.{length, take}
use lib.Seq.{length-take-le}
use Rattle.gaps.specs.Passes.{passed_of}
use Rattle.gaps.specs.declared.pass.Passed.{Passed}
use Rattle.gaps.specs.declared.pass.Passed.TheVariants.{Begins}
use Rattle.text.specs.declared.refusal.Refusal.{Refusal}
use Rattle.pieces.specs.Come.{sooner}
use Rattle.pieces.specs.inner.Comes.{come_by, come_of}
use Rattle.pieces.specs.declared.run.Ran.{Ran}
use Rattle.pieces.specs.declared.turn.Stands.TheVariants.{Stopped}
use Rattle.pieces.proofs.PassedLaws.{begins_inside}
use Rattle.pieces.proofs.TakenLaws.{open_level}
use Rattle.pieces.proofs.come.come.Goals as goal

pub slice_bounds-pass_gap-end : goal.slice_bounds-pass_gap-end
slice_bounds-pass_gap-end c =
    sym (length-take-le c.args.whole c.args.s.now c.requires.0)

pub pass_gap-gap-requires : goal.pass_gap-gap-requires
pass_gap-gap-requires c =
    let p = c.requires in
    omega (arith, open_level c.args.left 65536 p.3, length-take-le c.args.whole c.args.s.now p.0)

pub run-requires : goal.run-requires
run-requires c =
    let a = c.args in
    let p = c.requires in
    let k : ℕ = c.in-Begins.k in
    let e : passed_of a.left (take a.whole a.s.now) ≡ Begins k = sym c.pass_gap-gap.ensures ∙ c.in-Begins.is in
    let l = length-take-le a.whole a.s.now p.0 in
    (omega (arith, begins_inside a.left (take a.whole a.s.now) k e), p.0, p.1, p.2, p.4)

pub returns-in-Begins : goal.returns-in-Begins
unfolding come_of
returns-in-Begins c =
    let a = c.args in
    let k : ℕ = c.in-Begins.k in
    ap (λ (r : Ran). record { from = k; ran = r }) c.run.ensures
    ∙ sym (ap (λ (p : Passed). come_by p a.s.now a.kept a.whole) (sym c.pass_gap-gap.ensures ∙ c.in-Begins.is))

pub returns-in-Within : goal.returns-in-Within
unfolding come_of
returns-in-Within c =
    let a = c.args in
    sym (ap (λ (p : Passed). come_by p a.s.now a.kept a.whole) (sym c.pass_gap-gap.ensures ∙ c.in-Within.is))

pub returns-in-Unexpected : goal.returns-in-Unexpected
unfolding come_of
returns-in-Unexpected c =
    let a = c.args in
    ap₂ (λ (b : ℕ) (d : Refusal). record { from = 0; ran = record { count = 0; end = 0; bytes = b; stands = Stopped d } })
    (c.sooner-bytes.ensures ∙ ap (λ (n : ℕ). sooner n (length a.s.now)) c.later.ensures) c.unexpected_char.ensures
    ∙ sym (ap (λ (p : Passed). come_by p a.s.now a.kept a.whole) (sym c.pass_gap-gap.ensures ∙ c.in-Unexpected.is))

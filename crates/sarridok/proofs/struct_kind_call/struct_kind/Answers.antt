use Rattle.std.proofs.Common.{Err}
use Prim.Native.Nat.{ℕ}
use mathlib.Core.List.{List}
use native.Mathlib.Omega.{arith}
use mathlib.Core.Path.{◌≡◌, ◌∙◌, ap, sym}
use borrow.Author.Rules.{rules}
use Rattle.sarridok.proofs.StructPlaces.{kind_fits}
use Rattle.sarridok.specs.StructKind.{struct_kind_of}
use Rattle.structs.specs.Kinds.{placed_kind}
use Rattle.structs.specs.Structs.{struct_type_of}
use Rattle.text.proofs.JudgeLaws.{front_fit, front_refused, front_unfit, place_within}
use Rattle.text.proofs.Lists.{tail_part}
use Rattle.sarridok.proofs.struct_kind_call.struct_kind.Goals as goal

pub returns-in_err-judge : goal.returns-in_err-judge
unfolding struct_kind_of
returns-in_err-judge c =
    let e : c.from_residual.result ≡ Err c.in_err-judge.field-0.0 = search rules in
    e ∙ sym (front_refused _ _ _ _ (sym c.in_err-judge.ensures))

pub returns-then-not-place_fits : goal.returns-then-not-place_fits
unfolding struct_kind_of
returns-then-not-place_fits c = ap Err c.unfit.ensures ∙ sym (front_unfit _ _ _ (sym c.in_ok-judge.ensures) (sym c.place_fits.ensures ∙ c.if-not-place_fits.true))

pub slice_bounds-check_struct_type-count : goal.slice_bounds-check_struct_type-count
slice_bounds-check_struct_type-count c = place_within c.args.text.now c.args.place (sym c.place_fits.ensures ∙ c.if-not-place_fits.false)

pub slice_bounds-check_struct_type-start : goal.slice_bounds-check_struct_type-start
slice_bounds-check_struct_type-start c = place_within c.args.text.now c.args.place (sym c.place_fits.ensures ∙ c.if-not-place_fits.false)

pub placed-requires : goal.placed-requires
placed-requires c = rw (c.check_struct_type.ensures ∙ ap (λ (s : List ℕ). struct_type_of s c.args.newtype c.args.tuple) (tail_part c.args.text.now c.args.place)) (kind_fits c.args.text.now c.args.place c.args.newtype c.args.tuple (place_within c.args.text.now c.args.place (sym c.place_fits.ensures ∙ c.if-not-place_fits.false)) (omega arith))

pub returns : goal.returns
unfolding struct_kind_of
returns c = (c.placed.ensures ∙ ap (placed_kind c.args.place) (c.check_struct_type.ensures ∙ ap (λ (s : List ℕ). struct_type_of s c.args.newtype c.args.tuple) (tail_part c.args.text.now c.args.place))) ∙ sym (front_fit _ _ _ (sym c.in_ok-judge.ensures) (sym c.place_fits.ensures ∙ c.if-not-place_fits.false))

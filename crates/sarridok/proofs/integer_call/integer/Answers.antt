use Rattle.std.proofs.Common.{Err}
use native.Mathlib.Omega.{arith}
use mathlib.Core.Path.{◌≡◌, ◌∙◌, ap, sym}
use borrow.Author.Rules.{rules}
use Rattle.sarridok.proofs.Places.{at_fits}
use Rattle.sarridok.specs.Typed.{integer_at, integer_of, placed_at}
use Rattle.text.proofs.JudgeLaws.{front_fit, front_refused, front_unfit, place_within}
use Rattle.text.proofs.Lists.{tail_part}
use Rattle.sarridok.proofs.integer_call.integer.Goals as goal

pub returns-in_err-judge : goal.returns-in_err-judge
unfolding integer_of
returns-in_err-judge c =
    let e : c.from_residual.result ≡ Err c.in_err-judge.field-0.0 = search rules in
    rw e (sym (front_refused _ _ _ _ (sym c.in_err-judge.ensures)))

pub returns-then-not-place_fits : goal.returns-then-not-place_fits
unfolding integer_of
returns-then-not-place_fits c = ap Err c.unfit.ensures ∙ sym (front_unfit _ _ _ (sym c.in_ok-judge.ensures) (sym c.place_fits.ensures ∙ c.if-not-place_fits.true))

pub slice_bounds-number_at-count : goal.slice_bounds-number_at-count
slice_bounds-number_at-count c = omega (arith, place_within c.args.text.now c.args.place (sym c.place_fits.ensures ∙ c.if-not-place_fits.false))

pub slice_bounds-number_at-start : goal.slice_bounds-number_at-start
slice_bounds-number_at-start c = omega (arith, place_within c.args.text.now c.args.place (sym c.place_fits.ensures ∙ c.if-not-place_fits.false))

pub placed-requires : goal.placed-requires
placed-requires c = rw (c.number_at.ensures ∙ ap (integer_at c.args.width) (tail_part c.args.text.now c.args.place)) (at_fits c.args.text.now c.args.place c.args.width (place_within c.args.text.now c.args.place (sym c.place_fits.ensures ∙ c.if-not-place_fits.false)) (omega arith))

pub returns : goal.returns
unfolding integer_of
returns c = c.placed.ensures ∙ ap (placed_at c.args.place) (c.number_at.ensures ∙ ap (integer_at c.args.width) (tail_part c.args.text.now c.args.place)) ∙ sym (front_fit _ _ _ (sym c.in_ok-judge.ensures) (sym c.place_fits.ensures ∙ c.if-not-place_fits.false))

use Rattle.std.proofs.Common.{Err}
use mathlib.Core.Path.{◌≡◌, ◌∙◌, ap, sym}
use borrow.Author.Rules.{rules}
use Rattle.sarridok.specs.Skip.{skip_of}
use Rattle.text.proofs.JudgeLaws.{front_fit, front_refused, front_unfit}
use Rattle.sarridok.proofs.skip_call.skip.Goals as goal

pub returns-in_err-judge : goal.returns-in_err-judge
unfolding skip_of
returns-in_err-judge c =
    let e : c.from_residual.result ≡ Err c.in_err-judge.field-0.0 = search rules in
    e ∙ sym (front_refused _ _ _ _ (sym c.in_err-judge.ensures))

pub returns-then-not-fits : goal.returns-then-not-fits
unfolding skip_of
returns-then-not-fits c = ap Err c.unfit.ensures ∙ sym (front_unfit _ _ _ (sym c.in_ok-judge.ensures) (sym c.fits.ensures ∙ c.if-not-fits.true))

pub returns : goal.returns
unfolding skip_of
returns c = c.skip_ws.ensures ∙ sym (front_fit _ _ _ (sym c.in_ok-judge.ensures) (sym c.fits.ensures ∙ c.if-not-fits.false))

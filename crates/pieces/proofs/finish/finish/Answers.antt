use Rattle.pieces.specs.declared.state.Ended.TheVariants as ended
use Rattle.pieces.specs.Ends.{Rest, ended_of, rest_laid}
use Rattle.pieces.proofs.LastLaws.{finish_own, finish_rest, finish_unfit, fit_order, fit_there}
use Rattle.text.specs.Refusals.{Told}
use Rattle.rows.specs.Rows.{room_of}
use borrow.Author.Tests.{eq-eqb}
use lib.Seq.{length-take-le}
use lib.ListN.{length}
use mathlib.Core.Path.{ap, sym, ◌∙◌}
use native.Mathlib.Omega.{arith}
use Rattle.pieces.proofs.finish.finish.Goals as goal

pub returns-then-not-fits : goal.returns-then-not-fits
returns-then-not-fits c =
    let a = c.args in
    let f = finish_unfit a.state a.buffer.now (room_of (length a.tape.now)) c.fits.result c.fits.ensures c.if-not-fits.true in
    (ap ended.Refused c.not_in_order.ensures ∙ sym (ap ended_of f), sym (ap (λ (x : Told Rest). rest_laid x a.tape.now) f))

pub returns-then-refusal-ne0 : goal.returns-then-refusal-ne0
returns-then-refusal-ne0 c =
    let a = c.args in
    finish_own a.state a.buffer.now (room_of (length a.tape.now)) c.fits.result c.fits.ensures a.tape.now c.if-not-fits.false c.if-refusal-ne0.true

pub slice_bounds-rest-end : goal.slice_bounds-rest-end
slice_bounds-rest-end c =
    let a = c.args in
    sym (length-take-le a.state.kept a.buffer.now (fit_there a.state a.buffer.now 0 c.fits.result c.fits.ensures c.if-not-fits.false))

pub rest-requires : goal.rest-requires
rest-requires c =
    let a = c.args in
    record {
      order = fit_order a.state a.buffer.now 0 c.fits.result c.fits.ensures c.if-not-fits.false;
      unrefused = eq-eqb _ _ c.if-refusal-ne0.false;
      all = length-take-le a.state.kept a.buffer.now (fit_there a.state a.buffer.now 0 c.fits.result c.fits.ensures c.if-not-fits.false);
      inside = omega arith;
    }

pub returns : goal.returns
returns c =
    let a = c.args in
    let f = finish_rest a.state a.buffer.now (room_of (length a.tape.now)) c.fits.result c.fits.ensures c.if-not-fits.false c.if-refusal-ne0.false in
    (c.rest.ensures.0 ∙ sym (ap ended_of f), c.rest.ensures.1 ∙ sym (ap (λ (x : Told Rest). rest_laid x a.tape.now) f))

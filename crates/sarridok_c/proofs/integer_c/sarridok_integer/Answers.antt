use mathlib.Core.Path.{◌∙◌, ap, refl, sym}
use Rattle.sarridok.specs.Typed.{integer_of}
use Rattle.sarridok_c.specs.Packed.{packed, lent_after, refusal_word}
use Rattle.sarridok_c.specs.Words.{typed_word, magnitude_of}
use Rattle.sarridok_c.proofs.NumberedLaws.{width_low, width_high, width_fit}
use Rattle.sarridok_c.proofs.integer_c.sarridok_integer.Goals as goal

pub returns-then-width-lt1 : goal.returns-then-width-lt1
returns-then-width-lt1 c = rw (width_low c.args.text.now c.args.place c.args.width c.if-width-lt1.true) (record { answer = c.refused.ensures ∙ ap refusal_word c.unfit_in.ensures; number = refl })

pub returns-then-width-gt8 : goal.returns-then-width-gt8
returns-then-width-gt8 c = rw (width_high c.args.text.now c.args.place c.args.width c.if-width-gt8.true) (record { answer = c.refused-then-width-gt8.ensures ∙ ap refusal_word c.unfit_in-then-width-gt8.ensures; number = refl })

pub returns : goal.returns
returns c =
    let e = c.integer.ensures ∙ ap (integer_of c.args.text.now c.args.place) c.width_at.ensures ∙ sym (width_fit c.args.text.now c.args.place c.args.width c.if-width-lt1.false c.if-width-gt8.false) in
    record {
      answer = c.word.ensures.0 ∙ ap (packed typed_word) e;
      number = c.word.ensures.1 ∙ ap (λ t. lent_after magnitude_of t c.args.magnitude.now) e;
    }

use mathlib.Core.Path.{◌∙◌, ap, sym}
use Rattle.sarridok.specs.StructKind.{struct_kind_of}
use Rattle.sarridok_c.specs.Packed.{packed, refusal_word}
use Rattle.sarridok_c.specs.Words.{kind_word}
use Rattle.sarridok_c.specs.Numbered.{newtype_at}
use Rattle.sarridok_c.proofs.NumberedLaws.{newtype_high, tuple_high, modes_fit}
use Rattle.sarridok_c.proofs.struct_kind_c.sarridok_struct_kind.Goals as goal

pub returns-then-newtype-gt1 : goal.returns-then-newtype-gt1
returns-then-newtype-gt1 c = rw (newtype_high c.args.text.now c.args.place c.args.newtype c.args.tuple c.if-newtype-gt1.true) (c.refused.ensures ∙ ap refusal_word c.unfit_in.ensures)

pub returns-then-tuple-gt1 : goal.returns-then-tuple-gt1
returns-then-tuple-gt1 c = rw (tuple_high c.args.text.now c.args.place c.args.newtype c.args.tuple c.if-newtype-gt1.false c.if-tuple-gt1.true) (c.refused-then-tuple-gt1.ensures ∙ ap refusal_word c.unfit_in-then-tuple-gt1.ensures)

pub returns : goal.returns
returns c = c.word.ensures ∙ ap (packed kind_word) (c.struct_kind.ensures ∙ ap (λ m. struct_kind_of c.args.text.now c.args.place m c.tuple_at.result) c.newtype_at.ensures ∙ ap (struct_kind_of c.args.text.now c.args.place (newtype_at c.args.newtype)) c.tuple_at.ensures ∙ sym (modes_fit c.args.text.now c.args.place c.args.newtype c.args.tuple c.if-newtype-gt1.false c.if-tuple-gt1.false))

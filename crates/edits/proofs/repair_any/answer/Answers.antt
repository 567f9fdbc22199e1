use mathlib.Core.Path.{refl, sym, ap, ◌∙◌}
use Rattle.words.specs.Split.{first_word, behind_word}
use Rattle.edits.specs.Repairs.{any_line}
use Rattle.edits.proofs.LineLaws.{answered}
use Rattle.edits.proofs.AnyLaws.{line_1, line_2, line_3, line_repaired}
use Rattle.edits.proofs.repair_any.answer.Goals as goal

pub returns-in_default : goal.returns-in_default
returns-in_default c = answered (any_line c.args.words.now c.args.text.now c.args.tape.now c.args.aside.now) _ (c.args.o.now, c.args.at) _ (line_1 c.args.words.now c.args.text.now c.args.tape.now c.args.aside.now (sym c.front.ensures ∙ c.in_default.is)) (c.bad.ensures, refl, refl, refl)

pub returns-in_default-bytes : goal.returns-in_default-bytes
returns-in_default-bytes c = answered (any_line c.args.words.now c.args.text.now c.args.tape.now c.args.aside.now) _ (c.args.o.now, c.args.at) _ (line_2 c.args.words.now c.args.text.now c.args.tape.now c.args.aside.now _ (sym c.front.ensures ∙ c.in-Some.is) _ (c.word.ensures ∙ ap first_word (c.behind-words.ensures ∙ ap behind_word (c.behind-3.ensures ∙ ap behind_word (c.behind-2.ensures ∙ ap behind_word c.behind.ensures)))) (sym c.bytes.ensures.value ∙ c.in_default-bytes.is)) (c.bad-in_default-bytes.ensures, c.bytes.ensures.buf_after, refl, refl)

pub returns-in_default-numbers : goal.returns-in_default-numbers
returns-in_default-numbers c = answered (any_line c.args.words.now c.args.text.now c.args.tape.now c.args.aside.now) _ (c.args.o.now, c.args.at) _ (line_3 c.args.words.now c.args.text.now c.args.tape.now c.args.aside.now _ (sym c.front.ensures ∙ c.in-Some.is) _ (c.word.ensures ∙ ap first_word (c.behind-words.ensures ∙ ap behind_word (c.behind-3.ensures ∙ ap behind_word (c.behind-2.ensures ∙ ap behind_word c.behind.ensures)))) _ (c.behind-4.ensures ∙ ap behind_word (c.behind-words.ensures ∙ ap behind_word (c.behind-3.ensures ∙ ap behind_word (c.behind-2.ensures ∙ ap behind_word c.behind.ensures)))) _ (sym c.bytes.ensures.value ∙ c.in-Some-bytes.is) (sym c.numbers.ensures.value ∙ c.in_default-numbers.is)) (c.bad-in_default-numbers.ensures, c.bytes.ensures.buf_after, c.numbers.ensures.tape_after, refl)

pub returns : goal.returns
returns c = line_repaired c.args.words.now c.args.text.now c.args.tape.now c.args.aside.now _ (sym c.front.ensures ∙ c.in-Some.is) _ (c.word.ensures ∙ ap first_word (c.behind-words.ensures ∙ ap behind_word (c.behind-3.ensures ∙ ap behind_word (c.behind-2.ensures ∙ ap behind_word c.behind.ensures)))) _ (c.behind-4.ensures ∙ ap behind_word (c.behind-words.ensures ∙ ap behind_word (c.behind-3.ensures ∙ ap behind_word (c.behind-2.ensures ∙ ap behind_word c.behind.ensures)))) _ (sym c.bytes.ensures.value ∙ c.in-Some-bytes.is) _ (sym c.numbers.ensures.value ∙ c.in-Some-numbers.is) _ _ _ c.bytes.ensures.buf_after c.numbers.ensures.tape_after c.part.ensures (c.args.o.now, c.args.at) _ _ _ c.lent.ensures

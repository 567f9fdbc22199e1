use mathlib.Core.Path.{refl, sym, ap, ◌∙◌}
use native.Mathlib.Omega.{arith}
use lib.ListN.{length}
use Rattle.lines.proofs.Laws.{over_length}
use Rattle.words.specs.Hex.{pairs}
use Rattle.words.specs.Split.{first_word, behind_word}
use Rattle.edits.specs.Repairs.{text_line}
use Rattle.edits.proofs.LineLaws.{answered}
use Rattle.edits.proofs.CutLaws.{hex_fits, text_1, text_2, text_3}
use Rattle.edits.proofs.repair_text.answer.Goals as goal

pub returns-in_default : goal.returns-in_default
returns-in_default c = answered (text_line c.args.words.now c.args.text.now c.args.tape.now c.args.aside.now) _ (c.args.o.now, c.args.at) _ (text_1 c.args.words.now c.args.text.now c.args.tape.now c.args.aside.now (sym c.front.ensures ∙ c.in_default.is)) (c.bad.ensures, refl, refl, refl)

pub returns-in_default-bytes : goal.returns-in_default-bytes
returns-in_default-bytes c = answered (text_line c.args.words.now c.args.text.now c.args.tape.now c.args.aside.now) _ (c.args.o.now, c.args.at) _ (text_2 c.args.words.now c.args.text.now c.args.tape.now c.args.aside.now _ _ (sym c.front.ensures ∙ c.in-Some.is) _ (c.behind-2.ensures ∙ ap behind_word (c.behind-words.ensures ∙ ap behind_word c.behind.ensures)) (sym c.bytes.ensures.value ∙ c.in_default-bytes.is)) (c.bad-in_default-bytes.ensures, c.bytes.ensures.buf_after, refl, refl)

pub cut-requires : goal.cut-requires
cut-requires c = omega (arith, hex_fits c.behind-2.result.now (length c.args.text.now) c.in-Some-bytes.n (sym c.bytes.ensures.value ∙ c.in-Some-bytes.is), ap length c.bytes.ensures.buf_after, over_length (pairs c.behind-2.result.now) c.args.text.now)

pub returns : goal.returns
returns c = answered (text_line c.args.words.now c.args.text.now c.args.tape.now c.args.aside.now) _ (c.args.o.now, c.args.at) _ (text_3 c.args.words.now c.args.text.now c.args.tape.now c.args.aside.now _ _ (sym c.front.ensures ∙ c.in-Some.is) _ (c.behind-2.ensures ∙ ap behind_word (c.behind-words.ensures ∙ ap behind_word c.behind.ensures)) _ (c.word.ensures ∙ ap first_word (c.behind-words.ensures ∙ ap behind_word c.behind.ensures)) _ (sym c.bytes.ensures.value ∙ c.in-Some-bytes.is) _ c.bytes.ensures.buf_after) c.cut.ensures

use mathlib.Core.Path.{ap, ◌∙◌}
use Rattle.words.specs.Split.{first_word, behind_word}
use Rattle.edits.proofs.LineLaws.{said}
use Rattle.edits.proofs.AnyLaws.{front_1, front_2, front_3, front_4, front_5}
use Rattle.edits.proofs.repair_any.front.Goals as goal

pub returns-in_err-count : goal.returns-in_err-count
returns-in_err-count c = c.from_residual.ensures ∙ front_1 c.args.words.now (said c.word.ensures c.decimal_of.ensures c.in_err-count.was)

pub returns-in_err-old : goal.returns-in_err-old
returns-in_err-old c = c.from_residual-in_err-old.ensures ∙ front_2 c.args.words.now _ (said c.word.ensures c.decimal_of.ensures c.in_ok-count.was) (said (c.word-2.ensures ∙ ap first_word c.behind-words.ensures) c.decimal_of-2.ensures c.in_err-old.was)

pub returns-in_err-a : goal.returns-in_err-a
returns-in_err-a c = c.from_residual-in_err-a.ensures ∙ front_3 c.args.words.now _ (said c.word.ensures c.decimal_of.ensures c.in_ok-count.was) _ (said (c.word-2.ensures ∙ ap first_word c.behind-words.ensures) c.decimal_of-2.ensures c.in_ok-old.was) (said (c.word-3.ensures ∙ ap first_word (c.behind-words-2.ensures ∙ ap behind_word c.behind-words.ensures)) c.decimal_of-3.ensures c.in_err-a.was)

pub returns-in_err-b : goal.returns-in_err-b
returns-in_err-b c = c.from_residual-in_err-b.ensures ∙ front_4 c.args.words.now _ (said c.word.ensures c.decimal_of.ensures c.in_ok-count.was) _ (said (c.word-2.ensures ∙ ap first_word c.behind-words.ensures) c.decimal_of-2.ensures c.in_ok-old.was) _ (said (c.word-3.ensures ∙ ap first_word (c.behind-words-2.ensures ∙ ap behind_word c.behind-words.ensures)) c.decimal_of-3.ensures c.in_ok-a.was) (said (c.word-4.ensures ∙ ap first_word (c.behind.ensures ∙ ap behind_word (c.behind-words-2.ensures ∙ ap behind_word c.behind-words.ensures))) c.decimal_of-4.ensures c.in_err-b.was)

pub returns : goal.returns
returns c = front_5 c.args.words.now _ (said c.word.ensures c.decimal_of.ensures c.in_ok-count.was) _ (said (c.word-2.ensures ∙ ap first_word c.behind-words.ensures) c.decimal_of-2.ensures c.in_ok-old.was) _ (said (c.word-3.ensures ∙ ap first_word (c.behind-words-2.ensures ∙ ap behind_word c.behind-words.ensures)) c.decimal_of-3.ensures c.in_ok-a.was) _ (said (c.word-4.ensures ∙ ap first_word (c.behind.ensures ∙ ap behind_word (c.behind-words-2.ensures ∙ ap behind_word c.behind-words.ensures))) c.decimal_of-4.ensures c.in_ok-b.was)

use mathlib.Core.Path.{ap, ◌∙◌}
use Rattle.words.specs.Split.{first_word}
use Rattle.edits.proofs.LineLaws.{said}
use Rattle.edits.proofs.CutLaws.{ends_1, ends_2, ends_3}
use Rattle.edits.proofs.repair_text.front.Goals as goal

pub returns-in_err-a : goal.returns-in_err-a
returns-in_err-a c = c.from_residual.ensures ∙ ends_1 c.args.words.now (said c.word.ensures c.decimal_of.ensures c.in_err-a.was)

pub returns-in_err-b : goal.returns-in_err-b
returns-in_err-b c = c.from_residual-in_err-b.ensures ∙ ends_2 c.args.words.now _ (said c.word.ensures c.decimal_of.ensures c.in_ok-a.was) (said (c.word-2.ensures ∙ ap first_word c.behind.ensures) c.decimal_of-2.ensures c.in_err-b.was)

pub returns : goal.returns
returns c = ends_3 c.args.words.now _ (said c.word.ensures c.decimal_of.ensures c.in_ok-a.was) _ (said (c.word-2.ensures ∙ ap first_word c.behind.ensures) c.decimal_of-2.ensures c.in_ok-b.was)

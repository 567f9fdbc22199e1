use Prim.Native.Nat.{ℕ}
use mathlib.Core.List.{List}
use mathlib.Core.Path.{sym, ap, ◌∙◌}
use Rattle.words.specs.Number.{decimal_of}
use Rattle.words.specs.Split.{first_word, behind_word}
use Rattle.words.proofs.DecidedLaws.{said}
use Rattle.cases.proofs.IntegerLaws.{no_width, no_place, width_at}
use Rattle.cases.proofs.i.front.Goals as goal

pub returns-in_err-n : goal.returns-in_err-n
returns-in_err-n c =
    let words : List ℕ = c.args.words.now in
    c.from_residual.ensures ∙ no_width words (said decimal_of _ (first_word words) _ _ c.decimal_of.ensures c.word.ensures c.in_err-n.was)

pub returns-in_err-place : goal.returns-in_err-place
returns-in_err-place c =
    let words : List ℕ = c.args.words.now in
    c.from_residual-in_err-place.ensures ∙ no_place words _ (said decimal_of _ (first_word words) _ _ c.decimal_of.ensures c.word.ensures c.in_ok-n.was)
    (said decimal_of _ (first_word (behind_word words)) _ _ c.decimal_of-2.ensures (c.word-2.ensures ∙ ap first_word c.behind.ensures) c.in_err-place.was)

pub returns-in_err-width : goal.returns-in_err-width
returns-in_err-width c =
    let words : List ℕ = c.args.words.now in
    c.from_residual-in_err-width.ensures ∙ width_at words _ (said decimal_of _ (first_word words) _ _ c.decimal_of.ensures c.word.ensures c.in_ok-n.was) _ _
    (said decimal_of _ (first_word (behind_word words)) _ _ c.decimal_of-2.ensures (c.word-2.ensures ∙ ap first_word c.behind.ensures) c.in_ok-place.was) (sym c.width_of.ensures ∙ c.in_err-width.was)

pub returns : goal.returns
returns c =
    let words : List ℕ = c.args.words.now in
    width_at words _ (said decimal_of _ (first_word words) _ _ c.decimal_of.ensures c.word.ensures c.in_ok-n.was) _ _
    (said decimal_of _ (first_word (behind_word words)) _ _ c.decimal_of-2.ensures (c.word-2.ensures ∙ ap first_word c.behind.ensures) c.in_ok-place.was) (sym c.width_of.ensures ∙ c.in_ok-width.was)

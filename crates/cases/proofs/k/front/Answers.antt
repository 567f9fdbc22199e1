use Prim.Native.Nat.{ℕ}
use mathlib.Core.List.{List}
use mathlib.Core.Path.{ap, ◌∙◌}
use Rattle.words.specs.Number.{decimal_of}
use Rattle.words.specs.Split.{first_word, behind_word}
use Rattle.words.proofs.DecidedLaws.{said}
use Rattle.cases.proofs.KindLaws.{no_newtype, no_tuple, no_place, modes_at}
use Rattle.cases.proofs.k.front.Goals as goal

pub returns-in_err-newtype : goal.returns-in_err-newtype
returns-in_err-newtype c =
    let words : List ℕ = c.args.words.now in
    c.from_residual.ensures ∙ no_newtype words (said decimal_of _ (first_word words) _ _ c.decimal_of.ensures c.word.ensures c.in_err-newtype.was)

pub returns-in_err-tuple : goal.returns-in_err-tuple
returns-in_err-tuple c =
    let words : List ℕ = c.args.words.now in
    c.from_residual-in_err-tuple.ensures ∙ no_tuple words _ (said decimal_of _ (first_word words) _ _ c.decimal_of.ensures c.word.ensures c.in_ok-newtype.was)
    (said decimal_of _ (first_word (behind_word words)) _ _ c.decimal_of-2.ensures (c.word-2.ensures ∙ ap first_word c.behind-words.ensures) c.in_err-tuple.was)

pub returns-in_err-place : goal.returns-in_err-place
returns-in_err-place c =
    let words : List ℕ = c.args.words.now in
    c.from_residual-in_err-place.ensures ∙ no_place words _ _ (said decimal_of _ (first_word words) _ _ c.decimal_of.ensures c.word.ensures c.in_ok-newtype.was)
    (said decimal_of _ (first_word (behind_word words)) _ _ c.decimal_of-2.ensures (c.word-2.ensures ∙ ap first_word c.behind-words.ensures) c.in_ok-tuple.was)
    (said decimal_of _ (first_word (behind_word (behind_word words))) _ _ c.decimal_of-3.ensures (c.word-3.ensures ∙ ap first_word (c.behind.ensures ∙ ap behind_word c.behind-words.ensures)) c.in_err-place.was)

pub returns : goal.returns
returns c =
    let words : List ℕ = c.args.words.now in
    c.modes_of.ensures ∙ modes_at words _ _ _ (said decimal_of _ (first_word words) _ _ c.decimal_of.ensures c.word.ensures c.in_ok-newtype.was)
    (said decimal_of _ (first_word (behind_word words)) _ _ c.decimal_of-2.ensures (c.word-2.ensures ∙ ap first_word c.behind-words.ensures) c.in_ok-tuple.was)
    (said decimal_of _ (first_word (behind_word (behind_word words))) _ _ c.decimal_of-3.ensures (c.word-3.ensures ∙ ap first_word (c.behind.ensures ∙ ap behind_word c.behind-words.ensures)) c.in_ok-place.was)

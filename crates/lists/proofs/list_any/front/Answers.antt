use Prim.Native.Nat.{ℕ}
use mathlib.Core.List.{List}
use mathlib.Core.Path.{ap, ◌∙◌}
use Rattle.words.specs.Number.{decimal_of}
use Rattle.words.specs.Split.{first_word, behind_word}
use Rattle.words.proofs.DecidedLaws.{said}
use Rattle.lists.proofs.LineLaws.{no_magnitudes, no_codes, no_count, asks_at}
use Rattle.lists.proofs.list_any.front.Goals as goal

pub returns-in_err-magnitudes : goal.returns-in_err-magnitudes
returns-in_err-magnitudes c =
    let words : List ℕ = c.args.words.now in
    c.from_residual.ensures ∙ no_magnitudes words (said decimal_of _ (first_word words) _ _ c.decimal_of.ensures c.word.ensures c.in_err-magnitudes.was)

pub returns-in_err-codes : goal.returns-in_err-codes
returns-in_err-codes c =
    let words : List ℕ = c.args.words.now in
    c.from_residual-in_err-codes.ensures ∙ no_codes words _ (said decimal_of _ (first_word words) _ _ c.decimal_of.ensures c.word.ensures c.in_ok-magnitudes.was)
    (said decimal_of _ (first_word (behind_word words)) _ _ c.decimal_of-2.ensures (c.word-2.ensures ∙ ap first_word c.behind-words.ensures) c.in_err-codes.was)

pub returns-in_err-count : goal.returns-in_err-count
returns-in_err-count c =
    let words : List ℕ = c.args.words.now in
    c.from_residual-in_err-count.ensures ∙ no_count words _ _ (said decimal_of _ (first_word words) _ _ c.decimal_of.ensures c.word.ensures c.in_ok-magnitudes.was)
    (said decimal_of _ (first_word (behind_word words)) _ _ c.decimal_of-2.ensures (c.word-2.ensures ∙ ap first_word c.behind-words.ensures) c.in_ok-codes.was)
    (said decimal_of _ (first_word (behind_word (behind_word words))) _ _ c.decimal_of-3.ensures (c.word-3.ensures ∙ ap first_word (c.behind.ensures ∙ ap behind_word c.behind-words.ensures)) c.in_err-count.was)

pub returns : goal.returns
returns c =
    let words : List ℕ = c.args.words.now in
    asks_at words _ _ _ (said decimal_of _ (first_word words) _ _ c.decimal_of.ensures c.word.ensures c.in_ok-magnitudes.was)
    (said decimal_of _ (first_word (behind_word words)) _ _ c.decimal_of-2.ensures (c.word-2.ensures ∙ ap first_word c.behind-words.ensures) c.in_ok-codes.was)
    (said decimal_of _ (first_word (behind_word (behind_word words))) _ _ c.decimal_of-3.ensures (c.word-3.ensures ∙ ap first_word (c.behind.ensures ∙ ap behind_word c.behind-words.ensures)) c.in_ok-count.was)

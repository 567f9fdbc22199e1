use Prim.Native.Nat.{ℕ}
use mathlib.Core.List.{List}
use mathlib.Core.Path.{ap, ◌∙◌}
use Rattle.words.specs.Number.{decimal_of}
use Rattle.words.specs.Split.{first_word, behind_word}
use Rattle.words.proofs.DecidedLaws.{said}
use Rattle.cases.proofs.EntryLaws.{no_entry, no_count, no_buffer, asks_at}
use Rattle.cases.proofs.any_c.front.Goals as goal

pub returns-in_err-entry : goal.returns-in_err-entry
returns-in_err-entry c =
    let words : List ℕ = c.args.words.now in
    c.from_residual.ensures ∙ no_entry words (said decimal_of _ (first_word words) _ _ c.decimal_of.ensures c.word.ensures c.in_err-entry.was)

pub returns-in_err-count : goal.returns-in_err-count
returns-in_err-count c =
    let words : List ℕ = c.args.words.now in
    c.from_residual-in_err-count.ensures ∙ no_count words _ (said decimal_of _ (first_word words) _ _ c.decimal_of.ensures c.word.ensures c.in_ok-entry.was)
    (said decimal_of _ (first_word (behind_word words)) _ _ c.decimal_of-2.ensures (c.word-2.ensures ∙ ap first_word c.behind-words.ensures) c.in_err-count.was)

pub returns-in_err-buffer : goal.returns-in_err-buffer
returns-in_err-buffer c =
    let words : List ℕ = c.args.words.now in
    c.from_residual-in_err-buffer.ensures ∙ no_buffer words _ _ (said decimal_of _ (first_word words) _ _ c.decimal_of.ensures c.word.ensures c.in_ok-entry.was)
    (said decimal_of _ (first_word (behind_word words)) _ _ c.decimal_of-2.ensures (c.word-2.ensures ∙ ap first_word c.behind-words.ensures) c.in_ok-count.was)
    (said decimal_of _ (first_word (behind_word (behind_word words))) _ _ c.decimal_of-3.ensures (c.word-3.ensures ∙ ap first_word (c.behind.ensures ∙ ap behind_word c.behind-words.ensures)) c.in_err-buffer.was)

pub returns : goal.returns
returns c =
    let words : List ℕ = c.args.words.now in
    asks_at words _ _ _ (said decimal_of _ (first_word words) _ _ c.decimal_of.ensures c.word.ensures c.in_ok-entry.was)
    (said decimal_of _ (first_word (behind_word words)) _ _ c.decimal_of-2.ensures (c.word-2.ensures ∙ ap first_word c.behind-words.ensures) c.in_ok-count.was)
    (said decimal_of _ (first_word (behind_word (behind_word words))) _ _ c.decimal_of-3.ensures (c.word-3.ensures ∙ ap first_word (c.behind.ensures ∙ ap behind_word c.behind-words.ensures)) c.in_ok-buffer.was)

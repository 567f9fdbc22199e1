use Prim.Native.Nat.{ℕ}
use mathlib.Core.List.{List}
use Rattle.words.proofs.DecidedLaws.{said}
use Rattle.lines.proofs.LineLaws.{line2}
use Rattle.cases.proofs.LineLaws.{line_bad, line_good}
use lib.ListN.{length}
use Rattle.lines.specs.Over.{over}
use Rattle.words.specs.Hex.{hex_in, pairs}
use Rattle.words.specs.Split.{first_word, behind_word}
use Rattle.show.specs.Answers.{bad_text}
use mathlib.Core.Path.{◌≡◌, refl, ap, ◌∙◌}
use Rattle.words.specs.Number.{decimal_of}
use Rattle.cursor.specs.Cursor.{cursor}
use Rattle.sarridok.specs.Skip.{skip_of}
use Rattle.show.specs.Skips.{moved_text}
use Rattle.cases.specs.Skips.{length_of, skip_line}
use Rattle.cases.proofs.SkipLaws.{no_cursor, no_pre, no_length, skip_at}
use Rattle.cases.proofs.s.answer.Goals as goal

pub returns-in_default : goal.returns-in_default
returns-in_default c =
    let words : List ℕ = c.args.words.now in
    let text : List ℕ = c.args.text.now in
    let out : List ℕ × ℕ = (c.args.o.now, c.args.at) in
    line2 out _ bad_text _ text (skip_line words text)
    (no_cursor words text (said decimal_of _ (first_word words) _ _ c.decimal_of.ensures c.word.ensures c.in_default.is))
    c.bad.ensures refl

pub returns-in_default-decimal_of : goal.returns-in_default-decimal_of
returns-in_default-decimal_of c =
    let words : List ℕ = c.args.words.now in
    let text : List ℕ = c.args.text.now in
    let out : List ℕ × ℕ = (c.args.o.now, c.args.at) in
    line2 out _ bad_text _ text (skip_line words text)
    (no_pre words text _ (said decimal_of _ (first_word words) _ _ c.decimal_of.ensures c.word.ensures c.in-Some.is)
    (said decimal_of _ (first_word (behind_word words)) _ _ c.decimal_of-2.ensures (c.word-2.ensures ∙ ap first_word c.behind-words.ensures) c.in_default-decimal_of.is))
    c.bad-in_default-decimal_of.ensures refl

pub returns-in_default-length_of : goal.returns-in_default-length_of
returns-in_default-length_of c =
    let words : List ℕ = c.args.words.now in
    let text : List ℕ = c.args.text.now in
    let out : List ℕ × ℕ = (c.args.o.now, c.args.at) in
    line2 out _ bad_text _ text (skip_line words text)
    (no_length words text _ _ (said decimal_of _ (first_word words) _ _ c.decimal_of.ensures c.word.ensures c.in-Some.is)
    (said decimal_of _ (first_word (behind_word words)) _ _ c.decimal_of-2.ensures (c.word-2.ensures ∙ ap first_word c.behind-words.ensures) c.in-Some-decimal_of.is)
    (said length_of _ (first_word (behind_word (behind_word words))) _ _ c.length_of.ensures (c.word-3.ensures ∙ ap first_word (c.behind-words-2.ensures ∙ ap behind_word c.behind-words.ensures)) c.in_default-length_of.is))
    c.bad-in_default-length_of.ensures refl

pub returns-in_default-bytes : goal.returns-in_default-bytes
returns-in_default-bytes c =
    let words : List ℕ = c.args.words.now in
    let text : List ℕ = c.args.text.now in
    let out : List ℕ × ℕ = (c.args.o.now, c.args.at) in
    let last : List ℕ = behind_word (behind_word (behind_word words)) in
    let is_last : ◌≡◌ {A = List ℕ} _ last = c.behind.ensures ∙ ap behind_word (c.behind-words-2.ensures ∙ ap behind_word c.behind-words.ensures) in
    line_bad out _ (skip_line words text) _ moved_text (λ s. skip_of s (cursor c.in-Some.cursor c.in-Some-decimal_of.pre c.in-Some-length_of.len)) last text
    (skip_at words text c.in-Some.cursor c.in-Some-decimal_of.pre c.in-Some-length_of.len (said decimal_of _ (first_word words) _ _ c.decimal_of.ensures c.word.ensures c.in-Some.is)
    (said decimal_of _ (first_word (behind_word words)) _ _ c.decimal_of-2.ensures (c.word-2.ensures ∙ ap first_word c.behind-words.ensures) c.in-Some-decimal_of.is)
    (said length_of _ (first_word (behind_word (behind_word words))) _ _ c.length_of.ensures (c.word-3.ensures ∙ ap first_word (c.behind-words-2.ensures ∙ ap behind_word c.behind-words.ensures)) c.in-Some-length_of.is))
    (c.bytes.ensures.buf_after ∙ ap (λ (w : List ℕ). over (pairs w) text) is_last)
    (said (λ (w : List ℕ). hex_in w (length text)) _ last _ _ c.bytes.ensures.value is_last c.in_default-bytes.is) c.bad-in_default-bytes.ensures

pub returns : goal.returns
returns c =
    let words : List ℕ = c.args.words.now in
    let text : List ℕ = c.args.text.now in
    let out : List ℕ × ℕ = (c.args.o.now, c.args.at) in
    let last : List ℕ = behind_word (behind_word (behind_word words)) in
    let is_last : ◌≡◌ {A = List ℕ} _ last = c.behind.ensures ∙ ap behind_word (c.behind-words-2.ensures ∙ ap behind_word c.behind-words.ensures) in
    line_good out _ (skip_line words text) _ moved_text (λ s. skip_of s (cursor c.in-Some.cursor c.in-Some-decimal_of.pre c.in-Some-length_of.len)) last text
    (skip_at words text c.in-Some.cursor c.in-Some-decimal_of.pre c.in-Some-length_of.len (said decimal_of _ (first_word words) _ _ c.decimal_of.ensures c.word.ensures c.in-Some.is)
    (said decimal_of _ (first_word (behind_word words)) _ _ c.decimal_of-2.ensures (c.word-2.ensures ∙ ap first_word c.behind-words.ensures) c.in-Some-decimal_of.is)
    (said length_of _ (first_word (behind_word (behind_word words))) _ _ c.length_of.ensures (c.word-3.ensures ∙ ap first_word (c.behind-words-2.ensures ∙ ap behind_word c.behind-words.ensures)) c.in-Some-length_of.is))
    (c.bytes.ensures.buf_after ∙ ap (λ (w : List ℕ). over (pairs w) text) is_last)
    _ _ _ (said (λ (w : List ℕ). hex_in w (length text)) _ last _ _ c.bytes.ensures.value is_last c.in-Some-bytes.is) c.part.ensures c.skip-skipped.ensures c.skipped.ensures

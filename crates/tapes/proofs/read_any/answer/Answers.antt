use Prim.Native.Nat.{ℕ}
use mathlib.Core.List.{List}
use mathlib.Core.Path.{refl, sym, ap, ◌∙◌}
use lib.ListN.{length}
use Rattle.lines.specs.Over.{over}
use Rattle.show.specs.Answers.{bad_text}
use Rattle.words.specs.Hex.{hex_in, pairs}
use Rattle.words.specs.Number.{decimal_of}
use Rattle.words.specs.Split.{behind_word}
use Rattle.tapes.specs.Reads.{any_line}
use Rattle.lines.proofs.LineLaws.{line3}
use Rattle.tapes.proofs.ReadLaws.{any_no_number, any_bad, any_goes}
use Rattle.tapes.proofs.read_any.answer.Goals as goal

pub returns-in_default : goal.returns-in_default
returns-in_default c =
    let words : List ℕ = c.args.words.now in
    let text : List ℕ = c.args.text.now in
    let tape : List ℕ = c.args.tape.now in
    line3 (c.args.o.now, c.args.at) _ bad_text _ _ text tape (any_line words text tape)
    (any_no_number words text tape (sym (c.decimal_of.ensures ∙ ap decimal_of c.word.ensures) ∙ c.in_default.is)) c.bad.ensures refl refl

pub returns-in_default-bytes : goal.returns-in_default-bytes
returns-in_default-bytes c =
    let words : List ℕ = c.args.words.now in
    let text : List ℕ = c.args.text.now in
    let tape : List ℕ = c.args.tape.now in
    line3 (c.args.o.now, c.args.at) _ bad_text _ _ (over (pairs (behind_word words)) text) tape (any_line words text tape)
    (any_bad words text tape c.in-Some.numbers (sym (c.decimal_of.ensures ∙ ap decimal_of c.word.ensures) ∙ c.in-Some.is)
    (sym (c.bytes.ensures.value ∙ ap (λ (w : List ℕ). hex_in w (length text)) c.behind.ensures) ∙ c.in_default-bytes.is))
    c.bad-in_default-bytes.ensures (c.bytes.ensures.buf_after ∙ ap (λ (w : List ℕ). over (pairs w) text) c.behind.ensures) refl

pub returns : goal.returns
returns c =
    let words : List ℕ = c.args.words.now in
    let text : List ℕ = c.args.text.now in
    any_goes words text c.args.tape.now c.in-Some.numbers (sym (c.decimal_of.ensures ∙ ap decimal_of c.word.ensures) ∙ c.in-Some.is)
    c.in-Some-bytes.n (sym (c.bytes.ensures.value ∙ ap (λ (w : List ℕ). hex_in w (length text)) c.behind.ensures) ∙ c.in-Some-bytes.is)
    _ _ _ (c.args.o.now, c.args.at) _ (c.bytes.ensures.buf_after ∙ ap (λ (w : List ℕ). over (pairs w) text) c.behind.ensures) c.part.ensures c.answer.ensures

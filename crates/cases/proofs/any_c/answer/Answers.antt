use Prim.Native.Nat.{ℕ}
use mathlib.Core.List.{List}
use mathlib.Core.Path.{◌≡◌, refl, sym, ap, ◌∙◌}
use lib.ListN.{length}
use Rattle.lines.specs.Over.{over}
use Rattle.show.specs.Answers.{bad_text}
use Rattle.words.specs.Hex.{hex_in, pairs}
use Rattle.words.specs.Split.{first_word, behind_word}
use Rattle.words.proofs.DecidedLaws.{said}
use Rattle.words.proofs.SaidLaws.{part_said, tape_said}
use Rattle.words.specs.Numbers.{numbers_in, numbers_of}
use Rattle.cases.specs.Contents.{any_line, contents_in}
use Rattle.lines.proofs.LineLaws.{line4}
use Rattle.cases.proofs.EntryLaws.{not_asked, no_text, no_tape, tape_line, said_same}
use Rattle.cases.proofs.any_c.answer.Goals as goal

pub returns-in_default : goal.returns-in_default
returns-in_default c =
    let words : List ℕ = c.args.words.now in
    let text : List ℕ = c.args.text.now in
    let tape : List ℕ = c.args.tape.now in
    let spare : List ℕ = c.args.spare.now in
    let out : List ℕ × ℕ = (c.args.o.now, c.args.at) in
    line4 out _ bad_text _ _ _ text tape spare (any_line words text tape spare)
    (not_asked words text tape spare (sym c.front.ensures ∙ c.in_default.is)) c.bad.ensures refl refl refl

pub returns-in_default-bytes : goal.returns-in_default-bytes
returns-in_default-bytes c =
    let words : List ℕ = c.args.words.now in
    let text : List ℕ = c.args.text.now in
    let tape : List ℕ = c.args.tape.now in
    let spare : List ℕ = c.args.spare.now in
    let out : List ℕ × ℕ = (c.args.o.now, c.args.at) in
    let fourth : List ℕ = behind_word (behind_word (behind_word words)) in
    let is-fourth : ◌≡◌ {A = List ℕ} _ fourth = c.behind-words.ensures ∙ ap behind_word (c.behind-2.ensures ∙ ap behind_word c.behind.ensures) in
    let hexed : List ℕ = first_word fourth in
    let is-hexed : ◌≡◌ {A = List ℕ} _ hexed = c.word.ensures ∙ ap first_word is-fourth in
    line4 out _ bad_text _ _ _ (over (pairs hexed) text) tape spare (any_line words text tape spare)
    (no_text words text tape spare c.in-Some.q (sym c.front.ensures ∙ c.in-Some.is)
    (said (λ (w : List ℕ). hex_in w (length text)) _ hexed _ _ c.bytes.ensures.value is-hexed c.in_default-bytes.is)) c.bad-in_default-bytes.ensures (c.bytes.ensures.buf_after ∙ ap (λ (w : List ℕ). over (pairs w) text) is-hexed) refl refl

pub returns-in_default-numbers : goal.returns-in_default-numbers
returns-in_default-numbers c =
    let words : List ℕ = c.args.words.now in
    let text : List ℕ = c.args.text.now in
    let tape : List ℕ = c.args.tape.now in
    let spare : List ℕ = c.args.spare.now in
    let out : List ℕ × ℕ = (c.args.o.now, c.args.at) in
    let fourth : List ℕ = behind_word (behind_word (behind_word words)) in
    let is-fourth : ◌≡◌ {A = List ℕ} _ fourth = c.behind-words.ensures ∙ ap behind_word (c.behind-2.ensures ∙ ap behind_word c.behind.ensures) in
    let hexed : List ℕ = first_word fourth in
    let is-hexed : ◌≡◌ {A = List ℕ} _ hexed = c.word.ensures ∙ ap first_word is-fourth in
    let fifth : List ℕ = behind_word fourth in
    let is-fifth : ◌≡◌ {A = List ℕ} _ fifth = c.behind-3.ensures ∙ ap behind_word is-fourth in
    line4 out _ bad_text _ _ _ (over (pairs hexed) text) (over (numbers_of fifth) tape) spare (any_line words text tape spare)
    (no_tape words text tape spare c.in-Some.q (sym c.front.ensures ∙ c.in-Some.is) _
    (said (λ (w : List ℕ). hex_in w (length text)) _ hexed _ _ c.bytes.ensures.value is-hexed c.in-Some-bytes.is)
    (said (λ (w : List ℕ). numbers_in w (length tape)) _ fifth _ _ c.numbers.ensures.value is-fifth c.in_default-numbers.is)) c.bad-in_default-numbers.ensures (c.bytes.ensures.buf_after ∙ ap (λ (w : List ℕ). over (pairs w) text) is-hexed) (c.numbers.ensures.tape_after ∙ ap (λ (w : List ℕ). over (numbers_of w) tape) is-fifth) refl

pub returns : goal.returns
returns c =
    let words : List ℕ = c.args.words.now in
    let text : List ℕ = c.args.text.now in
    let tape : List ℕ = c.args.tape.now in
    let spare : List ℕ = c.args.spare.now in
    let out : List ℕ × ℕ = (c.args.o.now, c.args.at) in
    let fourth : List ℕ = behind_word (behind_word (behind_word words)) in
    let is-fourth : ◌≡◌ {A = List ℕ} _ fourth = c.behind-words.ensures ∙ ap behind_word (c.behind-2.ensures ∙ ap behind_word c.behind.ensures) in
    let hexed : List ℕ = first_word fourth in
    let is-hexed : ◌≡◌ {A = List ℕ} _ hexed = c.word.ensures ∙ ap first_word is-fourth in
    let fifth : List ℕ = behind_word fourth in
    let is-fifth : ◌≡◌ {A = List ℕ} _ fifth = c.behind-3.ensures ∙ ap behind_word is-fourth in
    let h = said (λ (w : List ℕ). hex_in w (length text)) _ hexed _ _ c.bytes.ensures.value is-hexed c.in-Some-bytes.is in
    let left = c.bytes.ensures.buf_after ∙ ap (λ (w : List ℕ). over (pairs w) text) is-hexed in
    let k = said (λ (w : List ℕ). numbers_in w (length tape)) _ fifth _ _ c.numbers.ensures.value is-fifth c.in-Some-numbers.is in
    let stored = c.numbers.ensures.tape_after ∙ ap (λ (w : List ℕ). over (numbers_of w) tape) is-fifth in
    let part = part_said hexed text _ _ _ h left c.part.ensures in
    let numbers = tape_said fifth tape _ _ _ k stored c.first.ensures in
    let both = said_same c.in-Some.q spare _ (pairs hexed) _ (numbers_of fifth) _ out _ part numbers c.answer.ensures in
    let own : List ℕ × List ℕ = contents_in (pairs hexed) (numbers_of fifth) c.in-Some.q spare in
    line4 out _ own.0 _ _ _ (over (pairs hexed) text) (over (numbers_of fifth) tape) own.1 (any_line words text tape spare)
    (tape_line words text tape spare c.in-Some.q (sym c.front.ensures ∙ c.in-Some.is) _ h _ k)
    both.0 left stored both.1

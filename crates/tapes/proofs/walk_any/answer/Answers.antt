use Prim.Native.Nat.{ℕ}
use mathlib.Core.List.{List}
use mathlib.Core.Path.{refl, sym, ap, ◌∙◌}
use lib.ListN.{length}
use Rattle.lines.specs.Over.{over}
use Rattle.show.specs.Answers.{bad_text}
use Rattle.words.specs.Hex.{hex_in, pairs}
use Rattle.words.specs.Numbers.{numbers_in, numbers_of}
use Rattle.words.specs.Split.{first_word, behind_word}
use Rattle.tapes.specs.Walks.{any_line}
use Rattle.lines.proofs.LineLaws.{line4}
use Rattle.tapes.proofs.WalkLaws.{word4, behind4, behinds, any_no_front, any_no_text, any_no_tape, any_goes}
use Rattle.tapes.proofs.walk_any.answer.Goals as goal

pub returns-in_default : goal.returns-in_default
returns-in_default c =
    let words : List ℕ = c.args.words.now in
    let text : List ℕ = c.args.text.now in
    let tape : List ℕ = c.args.tape.now in
    let links : List ℕ = c.args.links.now in
    line4 (c.args.o.now, c.args.at) _ bad_text _ _ _ text tape links (any_line words text tape links)
    (any_no_front words text tape links (sym c.front.ensures ∙ c.in_default.is)) c.bad.ensures refl refl refl

pub returns-in_default-bytes : goal.returns-in_default-bytes
returns-in_default-bytes c =
    let words : List ℕ = c.args.words.now in
    let text : List ℕ = c.args.text.now in
    let tape : List ℕ = c.args.tape.now in
    let links : List ℕ = c.args.links.now in
    let fourth = c.word.ensures ∙ ap (λ (w : List ℕ). first_word w) (behinds words _ _ _ c.behind.ensures c.behind-2.ensures c.behind-words.ensures) in
    line4 (c.args.o.now, c.args.at) _ bad_text _ _ _ (over (pairs (word4 words)) text) tape links (any_line words text tape links)
    (any_no_text words text tape links c.in-Some.q (sym c.front.ensures ∙ c.in-Some.is)
    (sym (c.bytes.ensures.value ∙ ap (λ (w : List ℕ). hex_in w (length text)) fourth) ∙ c.in_default-bytes.is))
    c.bad-in_default-bytes.ensures (c.bytes.ensures.buf_after ∙ ap (λ (w : List ℕ). over (pairs w) text) fourth) refl refl

pub returns-in_default-numbers : goal.returns-in_default-numbers
returns-in_default-numbers c =
    let words : List ℕ = c.args.words.now in
    let text : List ℕ = c.args.text.now in
    let tape : List ℕ = c.args.tape.now in
    let links : List ℕ = c.args.links.now in
    let fourth = c.word.ensures ∙ ap (λ (w : List ℕ). first_word w) (behinds words _ _ _ c.behind.ensures c.behind-2.ensures c.behind-words.ensures) in
    let fifth = c.behind-3.ensures ∙ ap (λ (w : List ℕ). behind_word w) (behinds words _ _ _ c.behind.ensures c.behind-2.ensures c.behind-words.ensures) in
    line4 (c.args.o.now, c.args.at) _ bad_text _ _ _ (over (pairs (word4 words)) text) (over (numbers_of (behind4 words)) tape) links (any_line words text tape links)
    (any_no_tape words text tape links c.in-Some.q (sym c.front.ensures ∙ c.in-Some.is) c.in-Some-bytes.n (sym (c.bytes.ensures.value ∙ ap (λ (w : List ℕ). hex_in w (length text)) fourth) ∙ c.in-Some-bytes.is)
    (sym (c.numbers.ensures.value ∙ ap (λ (w : List ℕ). numbers_in w (length tape)) fifth) ∙ c.in_default-numbers.is))
    c.bad-in_default-numbers.ensures (c.bytes.ensures.buf_after ∙ ap (λ (w : List ℕ). over (pairs w) text) fourth) (c.numbers.ensures.tape_after ∙ ap (λ (w : List ℕ). over (numbers_of w) tape) fifth) refl

pub returns : goal.returns
returns c =
    let words : List ℕ = c.args.words.now in
    let text : List ℕ = c.args.text.now in
    let tape : List ℕ = c.args.tape.now in
    let links : List ℕ = c.args.links.now in
    let fourth = c.word.ensures ∙ ap (λ (w : List ℕ). first_word w) (behinds words _ _ _ c.behind.ensures c.behind-2.ensures c.behind-words.ensures) in
    let fifth = c.behind-3.ensures ∙ ap (λ (w : List ℕ). behind_word w) (behinds words _ _ _ c.behind.ensures c.behind-2.ensures c.behind-words.ensures) in
    any_goes words text tape links c.in-Some.q (sym c.front.ensures ∙ c.in-Some.is) c.in-Some-bytes.n (sym (c.bytes.ensures.value ∙ ap (λ (w : List ℕ). hex_in w (length text)) fourth) ∙ c.in-Some-bytes.is)
    c.in-Some-numbers.m (sym (c.numbers.ensures.value ∙ ap (λ (w : List ℕ). numbers_in w (length tape)) fifth) ∙ c.in-Some-numbers.is)
    _ _ _ _ _ (c.args.o.now, c.args.at) _ (c.bytes.ensures.buf_after ∙ ap (λ (w : List ℕ). over (pairs w) text) fourth) c.part.ensures (c.numbers.ensures.tape_after ∙ ap (λ (w : List ℕ). over (numbers_of w) tape) fifth) c.first.ensures c.answer.ensures

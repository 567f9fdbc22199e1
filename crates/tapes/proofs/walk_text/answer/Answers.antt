use Prim.Native.Nat.{ℕ}
use mathlib.Core.List.{List}
use mathlib.Core.Path.{refl, sym, ap, ◌∙◌}
use lib.ListN.{length}
use Rattle.lines.specs.Over.{over}
use Rattle.show.specs.Answers.{bad_text}
use Rattle.words.specs.Hex.{hex_in, pairs}
use Rattle.words.specs.Number.{decimal_of}
use Rattle.words.specs.Split.{behind_word}
use Rattle.tapes.specs.Walks.{walk_line}
use Rattle.lines.proofs.LineLaws.{line4}
use Rattle.tapes.proofs.WalkLaws.{walk_no_limit, walk_bad, walk_goes}
use Rattle.tapes.proofs.walk_text.answer.Goals as goal

pub returns-in_default : goal.returns-in_default
returns-in_default c =
    let words : List ℕ = c.args.words.now in
    let text : List ℕ = c.args.text.now in
    let tape : List ℕ = c.args.tape.now in
    let links : List ℕ = c.args.links.now in
    line4 (c.args.o.now, c.args.at) _ bad_text _ _ _ text tape links (walk_line words text tape links)
    (walk_no_limit words text tape links (sym (c.decimal_of.ensures ∙ ap decimal_of c.word.ensures) ∙ c.in_default.is)) c.bad.ensures refl refl refl

pub returns-in_default-bytes : goal.returns-in_default-bytes
returns-in_default-bytes c =
    let words : List ℕ = c.args.words.now in
    let text : List ℕ = c.args.text.now in
    let tape : List ℕ = c.args.tape.now in
    let links : List ℕ = c.args.links.now in
    line4 (c.args.o.now, c.args.at) _ bad_text _ _ _ (over (pairs (behind_word words)) text) tape links (walk_line words text tape links)
    (walk_bad words text tape links c.in-Some.limit (sym (c.decimal_of.ensures ∙ ap decimal_of c.word.ensures) ∙ c.in-Some.is)
    (sym (c.bytes.ensures.value ∙ ap (λ (w : List ℕ). hex_in w (length text)) c.behind.ensures) ∙ c.in_default-bytes.is))
    c.bad-in_default-bytes.ensures (c.bytes.ensures.buf_after ∙ ap (λ (w : List ℕ). over (pairs w) text) c.behind.ensures) refl refl

pub returns : goal.returns
returns c =
    let words : List ℕ = c.args.words.now in
    let text : List ℕ = c.args.text.now in
    let tape : List ℕ = c.args.tape.now in
    let links : List ℕ = c.args.links.now in
    walk_goes words text tape links c.in-Some.limit (sym (c.decimal_of.ensures ∙ ap decimal_of c.word.ensures) ∙ c.in-Some.is)
    c.in-Some-bytes.n (sym (c.bytes.ensures.value ∙ ap (λ (w : List ℕ). hex_in w (length text)) c.behind.ensures) ∙ c.in-Some-bytes.is)
    _ _ _ _ (c.args.o.now, c.args.at) _ (c.bytes.ensures.buf_after ∙ ap (λ (w : List ℕ). over (pairs w) text) c.behind.ensures) c.part.ensures c.walked.ensures

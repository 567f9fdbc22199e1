use Prim.Native.Nat.{ℕ}
use native.Mathlib.Omega.{arith}
use mathlib.Core.List.{List}
use mathlib.Core.Path.{sym, ap, ◌∙◌}
use lib.ListN.{length, take}
use borrow.Author.Tests.{leb-true}
use Rattle.lines.specs.Over.{over}
use Rattle.words.specs.Hex.{hex_in, pairs}
use Rattle.words.specs.Numbers.{numbers_in, numbers_of}
use Rattle.words.specs.Split.{first_word, behind_word}
use Rattle.words.proofs.DecidedLaws.{said}
use Rattle.words.proofs.SaidLaws.{hex_said, tape_said}
use Rattle.arrivals.proofs.TextLaws.{no_cuts, no_text, too_long, line_goes}
use Rattle.arrivals.proofs.WordLaws.{hex_fits}
use Rattle.arrivals.proofs.arrive_text.answer.Goals as goal

pub returns-in_default : goal.returns-in_default
returns-in_default c =
    let words : List ℕ = c.args.words.now in
    let text : List ℕ = c.args.text.now in
    let links : List ℕ = c.args.links.now in
    let first : List ℕ = first_word words in
    let rest : List ℕ = behind_word words in
    no_cuts words (length text) (length c.args.tape.now) (length links) (c.args.o.now, c.args.at) _ (said (λ (w : List ℕ). numbers_in w (length links)) _ first _ _ c.numbers.ensures.value c.word.ensures c.in_default.is) c.bad.ensures

pub returns-in_default-bytes : goal.returns-in_default-bytes
returns-in_default-bytes c =
    let words : List ℕ = c.args.words.now in
    let text : List ℕ = c.args.text.now in
    let links : List ℕ = c.args.links.now in
    let first : List ℕ = first_word words in
    let rest : List ℕ = behind_word words in
    no_text words (length text) (length c.args.tape.now) (length links) (c.args.o.now, c.args.at) _ c.in-Some.k (said (λ (w : List ℕ). numbers_in w (length links)) _ first _ _ c.numbers.ensures.value c.word.ensures c.in-Some.is) (said (λ (w : List ℕ). hex_in w (length text)) _ rest _ _ c.bytes.ensures.value c.behind.ensures c.in_default-bytes.is) c.bad-in_default-bytes.ensures

pub returns-then-not-fit : goal.returns-then-not-fit
returns-then-not-fit c =
    let words : List ℕ = c.args.words.now in
    let text : List ℕ = c.args.text.now in
    let links : List ℕ = c.args.links.now in
    let first : List ℕ = first_word words in
    let rest : List ℕ = behind_word words in
    too_long words (length text) (length c.args.tape.now) (length links) (c.args.o.now, c.args.at) _ c.in-Some.k (said (λ (w : List ℕ). numbers_in w (length links)) _ first _ _ c.numbers.ensures.value c.word.ensures c.in-Some.is) c.in-Some-bytes.n (said (λ (w : List ℕ). hex_in w (length text)) _ rest _ _ c.bytes.ensures.value c.behind.ensures c.in-Some-bytes.is) _ (tape_said first links _ _ c.in-Some.k (said (λ (w : List ℕ). numbers_in w (length links)) _ first _ _ c.numbers.ensures.value c.word.ensures c.in-Some.is) (c.numbers.ensures.tape_after ∙ ap (λ (w : List ℕ). over (numbers_of w) links) c.word.ensures) c.first-cuts.ensures) _ c.fit.ensures c.if-not-fit.true c.bad-then-not-fit.ensures

pub pieces-requires : goal.pieces-requires
pieces-requires c =
    let words : List ℕ = c.args.words.now in
    let text : List ℕ = c.args.text.now in
    let links : List ℕ = c.args.links.now in
    let first : List ℕ = first_word words in
    let rest : List ℕ = behind_word words in
    (leb-true _ _ (sym c.fit.ensures ∙ c.if-not-fit.false), omega (arith, (hex_fits rest (length text) c.in-Some-bytes.n (said (λ (w : List ℕ). hex_in w (length text)) _ rest _ _ c.bytes.ensures.value c.behind.ensures c.in-Some-bytes.is)).1, c.bytes.auto.buf))

pub returns : goal.returns
returns c =
    let words : List ℕ = c.args.words.now in
    let text : List ℕ = c.args.text.now in
    let links : List ℕ = c.args.links.now in
    let first : List ℕ = first_word words in
    let rest : List ℕ = behind_word words in
    line_goes words (length text) (length c.args.tape.now) (length links) (c.args.o.now, c.args.at) _ c.in-Some.k (said (λ (w : List ℕ). numbers_in w (length links)) _ first _ _ c.numbers.ensures.value c.word.ensures c.in-Some.is) c.in-Some-bytes.n (said (λ (w : List ℕ). hex_in w (length text)) _ rest _ _ c.bytes.ensures.value c.behind.ensures c.in-Some-bytes.is) _ (tape_said first links _ _ c.in-Some.k (said (λ (w : List ℕ). numbers_in w (length links)) _ first _ _ c.numbers.ensures.value c.word.ensures c.in-Some.is) (c.numbers.ensures.tape_after ∙ ap (λ (w : List ℕ). over (numbers_of w) links) c.word.ensures) c.first-cuts.ensures) _ c.fit.ensures c.if-not-fit.false _
    (ap (take c.in-Some-bytes.n) (c.bytes.ensures.buf_after ∙ ap (λ (w : List ℕ). over (pairs w) text) c.behind.ensures) ∙ hex_said rest text c.in-Some-bytes.n (said (λ (w : List ℕ). hex_in w (length text)) _ rest _ _ c.bytes.ensures.value c.behind.ensures c.in-Some-bytes.is))
    c.pieces.ensures

use Prim.Native.Nat.{ℕ}
use native.Mathlib.Omega.{arith}
use mathlib.Core.List.{List}
use mathlib.Core.Path.{sym, ap, ◌∙◌}
use lib.ListN.{length}
use Rattle.lines.specs.Over.{over}
use Rattle.words.specs.Numbers.{numbers_in, numbers_of}
use Rattle.words.specs.Split.{first_word, behind_word}
use Rattle.lists.proofs.LineLaws.{behinds, any_no_front, any_no_list, any_long, any_goes}
use Rattle.lists.proofs.list_any.answer.Goals as goal

pub returns-in_default : goal.returns-in_default
returns-in_default c =
    let words : List ℕ = c.args.words.now in
    let text : List ℕ = c.args.text.now in
    let tape : List ℕ = c.args.tape.now in
    let links : List ℕ = c.args.links.now in
    let numbers : List ℕ = c.args.numbers.now in
    let spare : List ℕ = c.args.spare.now in
    let out : List ℕ × ℕ = (c.args.o.now, c.args.at) in
    let z = any_no_front words text tape links numbers spare out _ (sym c.front.ensures ∙ c.in_default.is) c.bad.ensures in
    record {
      result_after = z.0;
      spare_after = z.1;
    }

pub returns-in_default-numbers : goal.returns-in_default-numbers
returns-in_default-numbers c =
    let words : List ℕ = c.args.words.now in
    let text : List ℕ = c.args.text.now in
    let tape : List ℕ = c.args.tape.now in
    let links : List ℕ = c.args.links.now in
    let numbers : List ℕ = c.args.numbers.now in
    let spare : List ℕ = c.args.spare.now in
    let out : List ℕ × ℕ = (c.args.o.now, c.args.at) in
    let fourth = c.word.ensures ∙ ap (λ (w : List ℕ). first_word w) (behinds words _ _ _ c.behind.ensures c.behind-2.ensures c.behind-words.ensures) in
    let z = any_no_list words text tape links numbers spare out _ c.in-Some.q (sym c.front.ensures ∙ c.in-Some.is)
    _ (c.numbers.ensures.tape_after ∙ ap (λ (w : List ℕ). over (numbers_of w) links) fourth)
    (sym (c.numbers.ensures.value ∙ ap (λ (w : List ℕ). numbers_in w (length links)) fourth) ∙ c.in_default-numbers.is) c.bad-in_default-numbers.ensures in
    record {
      result_after = z.0;
      spare_after = z.1;
    }

pub returns-then-items-gt65536 : goal.returns-then-items-gt65536
returns-then-items-gt65536 c =
    let words : List ℕ = c.args.words.now in
    let text : List ℕ = c.args.text.now in
    let tape : List ℕ = c.args.tape.now in
    let links : List ℕ = c.args.links.now in
    let numbers : List ℕ = c.args.numbers.now in
    let spare : List ℕ = c.args.spare.now in
    let out : List ℕ × ℕ = (c.args.o.now, c.args.at) in
    let fourth = c.word.ensures ∙ ap (λ (w : List ℕ). first_word w) (behinds words _ _ _ c.behind.ensures c.behind-2.ensures c.behind-words.ensures) in
    let z = any_long words text tape links numbers spare out _ c.in-Some.q (sym c.front.ensures ∙ c.in-Some.is)
    _ (c.numbers.ensures.tape_after ∙ ap (λ (w : List ℕ). over (numbers_of w) links) fourth)
    c.in-Some-numbers.k (sym (c.numbers.ensures.value ∙ ap (λ (w : List ℕ). numbers_in w (length links)) fourth) ∙ c.in-Some-numbers.is) _ c.first-items.ensures (omega arith) c.bad-then-items-gt65536.ensures in
    record {
      result_after = z.0;
      spare_after = z.1;
    }

pub returns : goal.returns
returns c =
    let words : List ℕ = c.args.words.now in
    let text : List ℕ = c.args.text.now in
    let tape : List ℕ = c.args.tape.now in
    let links : List ℕ = c.args.links.now in
    let numbers : List ℕ = c.args.numbers.now in
    let spare : List ℕ = c.args.spare.now in
    let out : List ℕ × ℕ = (c.args.o.now, c.args.at) in
    let fourth = c.word.ensures ∙ ap (λ (w : List ℕ). first_word w) (behinds words _ _ _ c.behind.ensures c.behind-2.ensures c.behind-words.ensures) in
    let z = any_goes words text tape links numbers spare out _ c.in-Some.q (sym c.front.ensures ∙ c.in-Some.is)
    _ (c.numbers.ensures.tape_after ∙ ap (λ (w : List ℕ). over (numbers_of w) links) fourth)
    c.in-Some-numbers.k (sym (c.numbers.ensures.value ∙ ap (λ (w : List ℕ). numbers_in w (length links)) fourth) ∙ c.in-Some-numbers.is) _ c.first-items.ensures (omega arith)
    _ (c.behind-3.ensures ∙ ap (λ (w : List ℕ). behind_word w) (behinds words _ _ _ c.behind.ensures c.behind-2.ensures c.behind-words.ensures)) _ _ _ _ (c.over_tape.ensures.result_after, c.over_tape.ensures.spare_after) in
    record {
      result_after = z.0;
      spare_after = z.1;
    }

use Prim.Native.Nat.{ℕ}
use mathlib.Core.List.{List}
use mathlib.Core.Path.{sym, ap, ◌∙◌}
use lib.ListN.{length}
use Rattle.lines.specs.Over.{over}
use Rattle.words.specs.Hex.{hex_in, pairs}
use Rattle.words.specs.Numbers.{numbers_in, numbers_of}
use Rattle.lists.proofs.LineLaws.{over_no_text, over_no_tape, over_goes}
use Rattle.lists.proofs.list_any.over_tape.Goals as goal

pub returns-in_default : goal.returns-in_default
returns-in_default c =
    let items : List ℕ = c.args.items.now in
    let words : List ℕ = c.args.words.now in
    let text : List ℕ = c.args.text.now in
    let tape : List ℕ = c.args.tape.now in
    let numbers : List ℕ = c.args.numbers.now in
    let spare : List ℕ = c.args.spare.now in
    let out : List ℕ × ℕ = (c.args.o.now, c.args.at) in
    let z = over_no_text c.args.q items words text tape numbers spare out _ _ (c.bytes.ensures.buf_after ∙ ap (λ (w : List ℕ). over (pairs w) text) c.word.ensures)
    (sym (c.bytes.ensures.value ∙ ap (λ (w : List ℕ). hex_in w (length text)) c.word.ensures) ∙ c.in_default.is) c.bad.ensures in
    record {
      result_after = z.0;
      spare_after = z.1;
    }

pub returns-in_default-numbers : goal.returns-in_default-numbers
returns-in_default-numbers c =
    let items : List ℕ = c.args.items.now in
    let words : List ℕ = c.args.words.now in
    let text : List ℕ = c.args.text.now in
    let tape : List ℕ = c.args.tape.now in
    let numbers : List ℕ = c.args.numbers.now in
    let spare : List ℕ = c.args.spare.now in
    let out : List ℕ × ℕ = (c.args.o.now, c.args.at) in
    let z = over_no_tape c.args.q items words text tape numbers spare out _ _ (c.bytes.ensures.buf_after ∙ ap (λ (w : List ℕ). over (pairs w) text) c.word.ensures)
    c.in-Some.n (sym (c.bytes.ensures.value ∙ ap (λ (w : List ℕ). hex_in w (length text)) c.word.ensures) ∙ c.in-Some.is)
    _ (c.numbers.ensures.tape_after ∙ ap (λ (w : List ℕ). over (numbers_of w) tape) c.behind.ensures)
    (sym (c.numbers.ensures.value ∙ ap (λ (w : List ℕ). numbers_in w (length tape)) c.behind.ensures) ∙ c.in_default-numbers.is) c.bad-in_default-numbers.ensures in
    record {
      result_after = z.0;
      spare_after = z.1;
    }

pub returns : goal.returns
returns c =
    let items : List ℕ = c.args.items.now in
    let words : List ℕ = c.args.words.now in
    let text : List ℕ = c.args.text.now in
    let tape : List ℕ = c.args.tape.now in
    let numbers : List ℕ = c.args.numbers.now in
    let spare : List ℕ = c.args.spare.now in
    let out : List ℕ × ℕ = (c.args.o.now, c.args.at) in
    let z = over_goes c.args.q items words text tape numbers spare out _ _ (c.bytes.ensures.buf_after ∙ ap (λ (w : List ℕ). over (pairs w) text) c.word.ensures)
    c.in-Some.n (sym (c.bytes.ensures.value ∙ ap (λ (w : List ℕ). hex_in w (length text)) c.word.ensures) ∙ c.in-Some.is)
    _ (c.numbers.ensures.tape_after ∙ ap (λ (w : List ℕ). over (numbers_of w) tape) c.behind.ensures)
    c.in-Some-numbers.m (sym (c.numbers.ensures.value ∙ ap (λ (w : List ℕ). numbers_in w (length tape)) c.behind.ensures) ∙ c.in-Some-numbers.is)
    _ _ c.part-s.ensures c.first-t.ensures _ _ c.answer.ensures.result_after c.answer.ensures.spare_after in
    record {
      result_after = z.0;
      spare_after = z.1;
    }

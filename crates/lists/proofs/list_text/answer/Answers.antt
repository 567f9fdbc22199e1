use Prim.Native.Nat.{ℕ}
use mathlib.Core.List.{List}
use mathlib.Core.Path.{sym, ◌∙◌}
use Rattle.lists.proofs.LineLaws.{list_bad, list_goes}
use Rattle.lists.proofs.list_text.answer.Goals as goal

pub returns-in_default : goal.returns-in_default
returns-in_default c =
    let words : List ℕ = c.args.words.now in
    let text : List ℕ = c.args.text.now in
    let tape : List ℕ = c.args.tape.now in
    let links : List ℕ = c.args.links.now in
    let numbers : List ℕ = c.args.numbers.now in
    let spare : List ℕ = c.args.spare.now in
    let out : List ℕ × ℕ = (c.args.o.now, c.args.at) in
    let z = list_bad words text tape links numbers spare _ c.bytes.ensures.buf_after out _ (sym c.bytes.ensures.value ∙ c.in_default.is) c.bad.ensures in
    record {
      result_after = z.0;
      spare_after = z.1;
    }

pub returns : goal.returns
returns c =
    let words : List ℕ = c.args.words.now in
    let text : List ℕ = c.args.text.now in
    let tape : List ℕ = c.args.tape.now in
    let links : List ℕ = c.args.links.now in
    let numbers : List ℕ = c.args.numbers.now in
    let spare : List ℕ = c.args.spare.now in
    let out : List ℕ × ℕ = (c.args.o.now, c.args.at) in
    let z = list_goes words text tape links numbers spare _ c.bytes.ensures.buf_after out _ c.in-Some.n (sym c.bytes.ensures.value ∙ c.in-Some.is)
    _ c.part.ensures _ _ _ _ (c.read.ensures.result_after, (c.read.ensures.tape_after, c.read.ensures.spare_after)) in
    record {
      result_after = z.0;
      spare_after = z.1;
    }

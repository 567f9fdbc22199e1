use Rattle.std.proofs.Common.{Err}
use Prim.Native.Nat.{ℕ}
use mathlib.Core.List.{List}
use mathlib.Core.Path.{refl, sym, ◌∙◌}
use Rattle.lists.proofs.LineLaws.{read_listed, accepted_listed}
use Rattle.lists.proofs.list_text.read.Goals as goal

pub returns-in-Ok : goal.returns-in-Ok
returns-in-Ok c =
    let text : List ℕ = c.args.text.now in
    let tape : List ℕ = c.args.tape.now in
    let links : List ℕ = c.args.links.now in
    let numbers : List ℕ = c.args.numbers.now in
    let spare : List ℕ = c.args.spare.now in
    let out : List ℕ × ℕ = (c.args.o.now, c.args.at) in
    let z = accepted_listed text tape links numbers spare _ c.read-r.ensures.1 out _
    c.in-Ok.n (sym c.in-Ok.is ∙ c.read-r.ensures.0)
    _ _ _ c.gather-k.ensures.value c.gather-k.ensures.list_after c.first-items.ensures _ c.asked-q.ensures _ _ (c.answer.ensures.result_after, c.answer.ensures.spare_after) in
    record {
      result_after = z.0;
      tape_after = z.1.0;
      spare_after = z.1.1;
    }

pub returns-in-Err : goal.returns-in-Err
returns-in-Err c =
    let text : List ℕ = c.args.text.now in
    let tape : List ℕ = c.args.tape.now in
    let links : List ℕ = c.args.links.now in
    let numbers : List ℕ = c.args.numbers.now in
    let spare : List ℕ = c.args.spare.now in
    let out : List ℕ × ℕ = (c.args.o.now, c.args.at) in
    let z = read_listed text tape links numbers spare _ c.read-r.ensures.1 out _ (links, numbers, spare)
    (Err c.in-Err.f) (sym c.in-Err.is ∙ c.read-r.ensures.0) c.refused.ensures refl in
    record {
      result_after = z.0;
      tape_after = z.1.0;
      spare_after = z.1.1;
    }

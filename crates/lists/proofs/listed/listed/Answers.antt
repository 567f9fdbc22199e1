use Prim.Native.Nat.{ℕ}
use mathlib.Core.List.{List}
use Rattle.lists.proofs.ListedLaws.{list_said}
use Rattle.lists.proofs.listed.listed.Goals as goal

pub returns : goal.returns
returns c =
    let text : List ℕ = c.args.text.now in
    let tape : List ℕ = c.args.tape.now in
    let items : List ℕ = c.args.items.now in
    let magnitudes : List ℕ = c.args.magnitudes.now in
    let codes : List ℕ = c.args.codes.now in
    record {
      result_after = list_said text tape c.args.count items magnitudes codes _ _ (c.args.o.now, c.args.at) _ c.call-r.ensures.result_value c.call-r.ensures.codes_after c.said.ensures;
      codes_after = c.call-r.ensures.codes_after;
    }

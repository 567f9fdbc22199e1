use Prim.Native.Nat.{ℕ}
use mathlib.Core.List.{List}
use Rattle.lists.proofs.ListedLaws.{call_told, call_left}
use Rattle.lists.proofs.listed.call.Goals as goal

pub returns : goal.returns
returns c =
    let text : List ℕ = c.args.text.now in
    let tape : List ℕ = c.args.tape.now in
    let items : List ℕ = c.args.items.now in
    let magnitudes : List ℕ = c.args.magnitudes.now in
    let codes : List ℕ = c.args.codes.now in
    record {
      result_value = call_told text tape c.args.count items magnitudes codes _ _ c.mark.ensures c.mark-2.ensures _ c.integers.ensures.answer;
      codes_after = call_left text tape c.args.count items magnitudes codes _ _ c.mark.ensures c.mark-2.ensures _ _ c.integers.ensures.magnitudes c.integers.ensures.codes;
    }

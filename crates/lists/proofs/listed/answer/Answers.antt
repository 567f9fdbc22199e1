use Prim.Native.Nat.{ℕ}
use native.Mathlib.Omega.{arith}
use mathlib.Core.List.{List}
use lib.ListN.{length}
use Rattle.lists.specs.declared.listed.Asked.{Asked}
use Rattle.lists.proofs.ListedLaws.{room_within, lent_both}
use Rattle.lists.proofs.listed.answer.Goals as goal

pub slice_bounds-listed-end : goal.slice_bounds-listed-end
slice_bounds-listed-end c = omega (arith, c.room-m.ensures, room_within c.args.q.magnitudes (length c.args.items.now) (length c.args.numbers.now))

pub slice_bounds-listed-end-2 : goal.slice_bounds-listed-end-2
slice_bounds-listed-end-2 c = omega (arith, c.room-k.ensures, room_within c.args.q.codes (length c.args.items.now) (length c.args.spare.now))

pub returns : goal.returns
returns c =
    let text : List ℕ = c.args.text.now in
    let tape : List ℕ = c.args.tape.now in
    let q : Asked = c.args.q in
    let items : List ℕ = c.args.items.now in
    let numbers : List ℕ = c.args.numbers.now in
    let spare : List ℕ = c.args.spare.now in
    let z = lent_both text tape q items numbers spare _ _ c.room-m.ensures c.room-k.ensures (c.args.o.now, c.args.at) _ _ _ c.listed.ensures.result_after c.listed.ensures.codes_after in
    record {
      result_after = z.0;
      spare_after = z.1;
    }

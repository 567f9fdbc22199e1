use Prim.Native.Nat.{ℕ}
use mathlib.Core.List.{List, ◌++◌}
use Rattle.lines.proofs.OutLaws.{then}
use Rattle.lines.specs.Decimal.{decimal}
use Rattle.pieces.specs.declared.state.Arrival.{Arrival}
use Rattle.text.specs.declared.refusal.Refusal.{Refusal}
use Rattle.arrivals.specs.States.{item_text, three_text, open_text, state_text}
use Rattle.arrivals.proofs.states.state.Goals as goal

pub returns : goal.returns
unfolding state_text
returns c =
    let out : List ℕ × ℕ = (c.args.o.now, c.args.at) in
    let s : Arrival = c.args.s in
    let r : Refusal = s.refusal in
    then out _ _ (decimal s.taken ++ item_text s.part ++ open_text s.gap ++ three_text r.number r.place r.reason) (item_text s.former)
    (then out _ _ (decimal s.taken ++ item_text s.part ++ open_text s.gap) (three_text r.number r.place r.reason)
    (then out _ _ (decimal s.taken ++ item_text s.part) (open_text s.gap)
    (then out _ _ (decimal s.taken) (item_text s.part) c.number-a.ensures c.item-b.ensures) c.opened-c.ensures) c.three-d.ensures) c.item.ensures

use mathlib.Core.List.{List, ◌++◌}
use mathlib.Core.Path.{ap, ◌∙◌}
use Prim.Native.Nat.{ℕ}
use lib.ListN.{drop}
use Rattle.stored.proofs.StoreLaws.{stored_short, stored_ten}
use Rattle.stored.proofs.storing.store.Goals as goal

pub returns-then-state-lt-NUMBERS : goal.returns-then-state-lt-NUMBERS
returns-then-state-lt-NUMBERS c = stored_short c.args.a c.args.state.now c.if-state-lt-NUMBERS.true

pub returns : goal.returns
returns c =
    ap (λ (x : List ℕ). x ++ drop 10 c.args.state.now) c.copy_from_slice.ensures.after
    ∙ stored_ten c.args.a c.args.state.now c.if-state-lt-NUMBERS.false _ _ _ _ _ _ _ _ _ _ c.low.ensures c.low-2.ensures c.gap_number.ensures c.level_number.ensures
    c.last_number.ensures c.from.ensures c.low-3.ensures c.from-2.ensures c.low-4.ensures c.low-5.ensures

use Prim.Native.Nat.{ℕ}
use mathlib.Core.Path.{ap}
use Rattle.lists.specs.Listed.{asked}
use Rattle.lists.proofs.list_text.asked.Goals as goal

pub returns : goal.returns
returns c = ap (λ (k : ℕ). asked k k c.args.count) c.most_for-room.ensures

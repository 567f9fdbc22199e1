use Prim.Native.Nat.{ℕ}
use mathlib.Core.Path.{ap}
use Rattle.tapes.specs.Walks.{asked}
use Rattle.tapes.proofs.walk_text.asked.Goals as goal

pub returns : goal.returns
returns c = ap (λ (n : ℕ). asked c.args.count c.args.limit n) c.links_for-room.ensures

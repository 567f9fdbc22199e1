use Prim.Native.Nat.{ℕ}
use mathlib.Core.List.{List}
use mathlib.Core.Path.{refl, ap}
use Rattle.arrive.proofs.last.Goals as goal

pub returns : goal.returns
returns c = (refl, ap (λ (x : List ℕ × ℕ). x.0) c.end-at.ensures.0, c.end-at.ensures.1)

use Prim.Native.Nat.{◌*◌, ◌+◌, ◌-◌, ◌≤◌, ℕ}
use mathlib.Core.List.{List, [], ◌++◌, ◌∷◌}
use mathlib.Core.Path.{◌≡◌}
use lib.ListN.{drop, length, replicate}
use Rattle.escapes.specs.Escapes.{more_bytes}
use Rattle.escapes.proofs.hex.more_bytes.Given as goal

abbrev pub invariant-loop-n : goal.invariant-loop-n
invariant-loop-n l = (bs : List ℕ) × (length bs ≡ l.n) × (l.bytes ≡ bs ++ replicate (4 - l.n) 0) × ((l.n - 1) * 4 ≤ length l.t)
    × (more_bytes 3 (l.b ∷ []) l.at l.t ≡ more_bytes (4 - l.n) bs (l.at + (l.n - 1) * 4) (drop ((l.n - 1) * 4) l.t))

-- The depth is the most brackets that are open behind any number of the entries; an accepted walk's is within its limit. Assumes nothing.
use Rattle.std.proofs.Common.{Ok}
use Prim.Native.Nat.{ℕ, ◌≤◌}
use native.Mathlib.Omega.{arith}
use mathlib.Core.Path.{◌≡◌, refl, ap}
use mathlib.Core.List.{List, [], ◌∷◌, ◌++◌}
use Rattle.grammar.specs.declared.kinds.Kind.{Kind}
use Rattle.grammar.specs.Kinds.{side_of}
use Rattle.grammar.specs.Refused.{open_behind, open_after}
use Rattle.grammar.specs.Walk.{walk_of}
use Rattle.grammar.proofs.Depth.{accepted_within}
use Rattle.depth.specs.Depth.{deepest_from, deepest_of}
use Rattle.depth.proofs.DepthLaws.{deepest_least}

-- no more are open anywhere
pub deepest_most : (a b : List Kind) (d : ℕ) → open_after a d ≤ deepest_from (a ++ b) d
unfolding deepest_from open_after
deepest_most [] b d = deepest_least b d
deepest_most (k ∷ a) b d = omega (arith, deepest_most a b (open_behind (side_of k) d))

-- and it is no more than is open somewhere
pub deepest_within : (ks : List Kind) (d l : ℕ) → ((a b : List Kind) → ks ≡ a ++ b → open_after a d ≤ l) → deepest_from ks d ≤ l
unfolding deepest_from open_after
deepest_within [] d l h = h [] [] refl
deepest_within (k ∷ ks) d l h =
    let rest : deepest_from ks (open_behind (side_of k) d) ≤ l = deepest_within ks (open_behind (side_of k) d) l (λ a b e. h (k ∷ a) b (ap (λ (r : List Kind). k ∷ r) e)) in
    let here : d ≤ l = h [] (k ∷ ks) refl in
    omega arith

-- an accepted walk
pub accepted_deepest : (ks : List Kind) (limit : ℕ) → walk_of ks limit ≡ Ok tt → deepest_of ks ≤ limit
accepted_deepest ks limit e = deepest_within ks 0 limit (accepted_within ks limit e)

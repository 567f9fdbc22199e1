-- The loop that looks for the deepest place: one turn, and the end. Assumes nothing.
use Prim.Native.Nat.{ℕ, ◌+◌, ◌<◌, ◌≤◌, max}
use native.Mathlib.Omega.{arith}
use mathlib.Core.Path.{◌≡◌, ap}
use mathlib.Core.List.{List, [], ◌∷◌}
use Rattle.rows.specs.Rows.{entry_at, entries_of}
use Rattle.grammar.specs.declared.kinds.Kind.{Kind}
use Rattle.grammar.specs.declared.kinds.Side.{Side}
use Rattle.grammar.specs.declared.kinds.Side.TheVariants.{Opens, Closes, Neither}
use Rattle.grammar.specs.Kinds.{kind_of, kinds_of, side_of}
use Rattle.grammar.specs.Refused.{open_behind}
use Rattle.walk.proofs.Rest.{rest, rest_start, rest_front, rest_end}
use Rattle.depth.specs.Depth.{deepest_from, deepest_of}

-- an entry opens at most one bracket
pub one_more : (s : Side) (d : ℕ) → open_behind s d ≤ d + 1
one_more Opens d = omega arith
one_more Closes d = omega arith
one_more Neither d = omega arith

-- the brackets that are open at first count
pub deepest_least : (ks : List Kind) (d : ℕ) → d ≤ deepest_from ks d
unfolding deepest_from
deepest_least [] d = omega arith
deepest_least (k ∷ ks) d = omega arith

module _ (t : List ℕ) (count : ℕ) where
  -- what is left gives the whole
  abbrev pub Deep : ℕ → ℕ → ℕ → Type 0
  Deep deep most i = (deep ≤ i) × (deep ≤ most) × (max most (deepest_from (rest t count i) deep) ≡ deepest_of (kinds_of (entries_of count t)))

  pub deep_starts : Deep 0 0 0
  deep_starts =
      let e : deepest_from (rest t count 0) 0 ≡ deepest_of (kinds_of (entries_of count t)) = ap deepest_of (rest_start t count) in
      (omega arith, omega arith, omega arith)

  module _ (deep most i : ℕ) (inv : Deep deep most i) where
    pub deep_turns : i < count → (d m : ℕ) → d ≡ open_behind (side_of (kind_of (entry_at t i).kind)) deep → m ≡ max most d → Deep d m (i + 1)
    unfolding deepest_from
    deep_turns h d m e f =
        let q : deepest_from (rest t count i) deep ≡ max deep (deepest_from (rest t count (i + 1)) (open_behind (side_of (kind_of (entry_at t i).kind)) deep)) =
        ap (λ (ks : List Kind). deepest_from ks deep) (rest_front t count i h) in
        let r : deepest_from (rest t count (i + 1)) d ≡ deepest_from (rest t count (i + 1)) (open_behind (side_of (kind_of (entry_at t i).kind)) deep) =
        ap (deepest_from (rest t count (i + 1))) e in
        let l : d ≤ deepest_from (rest t count (i + 1)) d = deepest_least (rest t count (i + 1)) d in
        (omega (arith, one_more (side_of (kind_of (entry_at t i).kind)) deep), omega arith, omega arith)

    pub deep_ends : count ≤ i → most ≡ deepest_of (kinds_of (entries_of count t))
    unfolding deepest_from
    deep_ends h =
        let q : deepest_from (rest t count i) deep ≡ deep = ap (λ (ks : List Kind). deepest_from ks deep) (rest_end t count i h) in
        omega arith

-- Which of the first entries names a field again depends on these entries alone. Assumes nothing.
use Rattle.std.proofs.Common.{Some, None, Option}
use Prim.Native.Nat.{ℕ, ◌+◌, ◌<◌, ◌≤◌}
use native.Mathlib.Omega.{arith}
use mathlib.Core.Path.{◌≡◌}
use mathlib.Core.List.{List, [], ◌∷◌, ◌++◌}
use lib.ListN.{length}
use Rattle.grammar.specs.declared.kinds.Kind.{Kind}
use Rattle.grammar.specs.declared.states.Frame.{Frame}
use Rattle.grammar.specs.declared.states.Frame.TheVariants.{Top}
use Rattle.grammar.specs.declared.states.Want.{Want}
use Rattle.grammar.specs.declared.states.Want.TheVariants.{Start}
use Rattle.grammar.specs.Steps.{step_of}
use Rattle.fields.specs.Fields.{again_from, again_of}
use Rattle.fields.proofs.AgainOn.{not_at, same_at, by-step, again_from_on}

-- the answer over the first entries, up to entry n, and that over more: the same entry, or nothing and no entry before n
data Starts (n : ℕ) : Option ℕ → Option ℕ → Type 0 where
  both : (j : ℕ) → j < n → Starts n (Some j) (Some j)
  later : (x : Option ℕ) → ((j : ℕ) → x ≡ Some j → n ≤ j) → Starts n None x

module _ (nm : ℕ → List ℕ) where
  starts : (a r : List Kind) (w : Want) (f : Frame) (es : List ℕ) (σ : List Frame) (τ : List (List ℕ)) (i n : ℕ) → n ≡ i + length a
      → Starts n (again_from nm a w f es σ τ i) (again_from nm (a ++ r) w f es σ τ i)
  unfolding again_from
  starts [] r w f es σ τ i n h = later (again_from nm r w f es σ τ i) (λ j e. let q : i ≤ j = again_from_on nm r w f es σ τ i j e in omega arith)
  starts (k ∷ a) r w f es σ τ i n h =
      by-step nm (Starts n) i (λ w' f' es' σ' τ'. again_from nm a w' f' es' σ' τ' (i + 1)) (λ w' f' es' σ' τ'. again_from nm (a ++ r) w' f' es' σ' τ' (i + 1))
      (later None (λ j e. not_at j e)) (both i (omega arith))
      (λ w' g es' σ' τ'. starts a r w' g es' σ' τ' (i + 1) n (omega arith))
      (step_of w k f) f es σ τ

  starts_of : (a r : List Kind) → Starts (length a) (again_of nm a) (again_of nm (a ++ r))
  starts_of a r = starts a r Start Top [] [] [] 0 (length a) (omega arith)

  -- what is found in the first entries stays found
  pub found_more : (a r : List Kind) (j : ℕ) → again_of nm a ≡ Some j → again_of nm (a ++ r) ≡ Some j
  found_more a r j e = go (again_of nm a) (again_of nm (a ++ r)) (starts_of a r) e
    where
      go : (x y : Option ℕ) → Starts (length a) x y → x ≡ Some j → y ≡ Some j
      go x y (both i h) e = e
      go x y (later z h) e = not_at j e

  -- what is found among them was found in them
  pub found_first : (a r : List Kind) (j : ℕ) → again_of nm (a ++ r) ≡ Some j → j < length a → again_of nm a ≡ Some j
  found_first a r j e lt = go (again_of nm a) (again_of nm (a ++ r)) (starts_of a r) e
    where
      go : (x y : Option ℕ) → Starts (length a) x y → y ≡ Some j → x ≡ Some j
      go x y (both i h) e = e
      go x y (later z h) e = let q : length a ≤ j = h j e in absurd (omega arith)

  -- an entry that is found is one of the entries
  pub found_inside : (a : List Kind) (j : ℕ) → again_of nm a ≡ Some j → j < length a
  found_inside a j e = go (again_of nm a) (again_of nm (a ++ [])) (starts_of a []) e
    where
      go : (x y : Option ℕ) → Starts (length a) x y → x ≡ Some j → j < length a
      go x y (both i h) e = let q : i ≡ j = same_at i j e in omega arith
      go x y (later z h) e = not_at j e

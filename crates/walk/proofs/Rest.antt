-- The kinds of the entries that are left from a row on. Assumes nothing.
use Prim.Native.Nat.{ℕ, suc, ◌+◌, ◌-◌, ◌*◌, ◌<◌, ◌≤◌}
use native.Mathlib.Omega.{arith}
use mathlib.Core.Path.{◌≡◌, ap, ◌∙◌}
use mathlib.Core.List.{List, [], ◌∷◌}
use lib.ListN.{drop}
use Rattle.rows.specs.Rows.{width, entry_at, entries_of}
use Rattle.rows.proofs.RowLaws.{entries_next}
use Rattle.grammar.specs.declared.kinds.Kind.{Kind}
use Rattle.grammar.specs.Kinds.{kind_of, kinds_of}

module _ (t : List ℕ) (count : ℕ) where
  -- the kinds from entry i on
  abbrev pub rest : ℕ → List Kind
  rest i = kinds_of (entries_of (count - i) (drop (width * i) t))

  pub rest_start : rest 0 ≡ kinds_of (entries_of count t)
  rest_start = let e : count - 0 ≡ count = omega arith in ap (λ (n : ℕ). kinds_of (entries_of n t)) e

  pub rest_front : (i : ℕ) → i < count → rest i ≡ kind_of (entry_at t i).kind ∷ rest (i + 1)
  unfolding kinds_of
  rest_front i h =
      let e : count - i ≡ suc (count - (i + 1)) = omega arith in
      ap (λ (n : ℕ). kinds_of (entries_of n (drop (width * i) t))) e ∙ ap kinds_of (entries_next (count - (i + 1)) i t)

  pub rest_end : (i : ℕ) → count ≤ i → rest i ≡ []
  unfolding kinds_of entries_of
  rest_end i h = let e : count - i ≡ 0 = omega arith in ap (λ (n : ℕ). kinds_of (entries_of n (drop (width * i) t))) e

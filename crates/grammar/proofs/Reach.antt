-- How far a tree reaches: over as many entries as it is written with. Assumes nothing.
use Prim.Native.Nat.{ℕ, ◌+◌}
use native.Mathlib.Omega.{arith}
use mathlib.Core.Path.{◌≡◌}
use mathlib.Core.List.{List, [], ◌∷◌}
use lib.ListN.{length}
use Rattle.grammar.specs.Grammar.{Value, scalar, name, list, map, round, called, Round, tuple, struct, Items, none, one, more, Pairs, no_pair, one_pair, more_pairs, Fields, no_field, one_field, more_fields, value, inner, items, pairs, fields}
use Rattle.grammar.specs.Links.{behind, behind_round, behind_items, behind_pairs, behind_fields}
use Rattle.grammar.specs.declared.kinds.Kind.{Kind}
use Rattle.grammar.specs.declared.kinds.Kind.TheVariants.{CloseRound, CloseSquare, CloseCurly, Comma, Colon}

mutual
  reach : (v : Value) (i : ℕ) (k : List Kind) → behind v i + length k ≡ i + length (value v k)
  reach scalar i k = omega arith
  reach name i k = omega arith
  reach (list xs) i k = omega (arith, reach_items xs (i + 1) (CloseSquare ∷ k))
  reach (map ps) i k = omega (arith, reach_pairs ps (i + 1) (CloseCurly ∷ k))
  reach (round r) i k = omega (arith, reach_round r (i + 1) (CloseRound ∷ k))
  reach (called r) i k = omega (arith, reach_round r (i + 1 + 1) (CloseRound ∷ k))

  reach_round : (r : Round) (i : ℕ) (k : List Kind) → behind_round r i + length k ≡ i + length (inner r k)
  reach_round (tuple xs) i k = reach_items xs i k
  reach_round (struct fs) i k = reach_fields fs i k

  reach_items : (xs : Items) (i : ℕ) (k : List Kind) → behind_items xs i + length k ≡ i + length (items xs k)
  reach_items none i k = omega arith
  reach_items (one v) i k = reach v i k
  reach_items (more v xs) i k = omega (arith, reach v i (Comma ∷ items xs k), reach_items xs (behind v i + 1) k)

  reach_pairs : (ps : Pairs) (i : ℕ) (k : List Kind) → behind_pairs ps i + length k ≡ i + length (pairs ps k)
  reach_pairs no_pair i k = omega arith
  reach_pairs (one_pair a b) i k = omega (arith, reach a i (Colon ∷ value b k), reach b (behind a i + 1) k)
  reach_pairs (more_pairs a b ps) i k =
      let p : ℕ = behind a i in
      let q : ℕ = behind b (p + 1) in
      omega (arith, reach a i (Colon ∷ value b (Comma ∷ pairs ps k)), reach b (p + 1) (Comma ∷ pairs ps k), reach_pairs ps (q + 1) k)

  reach_fields : (fs : Fields) (i : ℕ) (k : List Kind) → behind_fields fs i + length k ≡ i + length (fields fs k)
  reach_fields no_field i k = omega arith
  reach_fields (one_field v) i k = omega (arith, reach v (i + 1 + 1) k)
  reach_fields (more_fields v fs) i k = omega (arith, reach v (i + 1 + 1) (Comma ∷ fields fs k), reach_fields fs (behind v (i + 1 + 1) + 1) k)

pub behind_length : (v : Value) (i : ℕ) → behind v i ≡ i + length (value v [])
behind_length v i = omega (arith, reach v i [])

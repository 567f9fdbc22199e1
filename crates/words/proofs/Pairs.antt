-- Laws of pairs of hex digits. Assumes nothing.
use Rattle.std.specs.Prelude.{Some, None}
use Prim.Native.Nat.{ℕ, zero, suc, ◌+◌, ◌*◌, ◌≤◌, ◌<◌}
use native.Mathlib.Omega.{arith}
use native.Mathlib.Nat.{not-suc-le-zero, le_of_suc-le-suc}
use mathlib.Core.Path.{◌≡◌, refl, ◌∙◌}
use mathlib.Core.Bool.{Bool, true, false, cond}
use mathlib.Core.List.{List, [], ◌∷◌}
use lib.ListN.{length, get_or, drop, length-drop}
use lib.Dec.{ltb, eqb}
use borrow.Author.Tests.{lt-ltb, le-ltb, le-leb, lt-leb, eq-eqb, ne_eqb}
use Rattle.lines.specs.Over.{over}
use Rattle.lines.proofs.Laws.{drop_some, drop_none}
use Rattle.words.specs.Digit.{nibble_of}
use Rattle.words.specs.Hex.{pair_of, pairs, pairs_in}
use Rattle.text.proofs.Lists.{front2}
use Rattle.text.proofs.Choices.{and_false}

-- ---- one pair

module _ (a b : ℕ) where
  pub pair_first : 16 ≤ nibble_of a → pair_of a b ≡ 256
  unfolding pair_of
  pair_first h = rw (le-ltb _ _ h)

  pub pair_second : 16 ≤ nibble_of b → pair_of a b ≡ 256
  unfolding pair_of
  pair_second h = rw (le-ltb _ _ h, and_false (ltb (nibble_of a) 16))

  pub pair_both : nibble_of a < 16 → nibble_of b < 16 → pair_of a b ≡ nibble_of a * 16 + nibble_of b
  unfolding pair_of
  pair_both h k = rw (lt-ltb _ _ h, lt-ltb _ _ k)

-- ---- the pairs of a word

behind_one : (t : Bool) (v i : ℕ) (r q : List ℕ) → (i ≤ length r → drop i r ≡ q) → suc i ≤ length (cond t (v ∷ r) [])
    → drop (suc i) (cond t (v ∷ r) []) ≡ q
behind_one true v i r q f h = f (le_of_suc-le-suc h)
behind_one false v i r q f h = absurd (not-suc-le-zero h)

-- the bytes behind the first i are those of what stands behind 2 * i digits
drop_pairs : (s : List ℕ) (i : ℕ) → i ≤ length (pairs s) → drop i (pairs s) ≡ pairs (drop (2 * i) s)
unfolding pairs
drop_pairs s zero h = refl
drop_pairs [] (suc i) h = absurd (not-suc-le-zero h)
drop_pairs (a ∷ []) (suc i) h = absurd (not-suc-le-zero h)
drop_pairs (a ∷ b ∷ s) (suc i) h =
    let e : 2 * suc i ≡ suc (suc (2 * i)) = omega arith in
    rw e (behind_one (ltb (pair_of a b) 256) (pair_of a b) i (pairs s) (pairs (drop (2 * i) s)) (λ k. drop_pairs s i k) h)

short : (s : List ℕ) → length s ≤ 1 → pairs s ≡ []
unfolding pairs
short [] h = refl
short (a ∷ []) h = refl
short (a ∷ b ∷ s) h = absurd (not-suc-le-zero (le_of_suc-le-suc h))

module _ (s : List ℕ) (i : ℕ) (h : i ≤ length (pairs s)) where
  -- two more digits
  pub pairs_next : 2 * i + 1 < length s → pair_of (get_or s (2 * i) 0) (get_or s (2 * i + 1) 0) < 256
      → (i < length (pairs s)) × (get_or (pairs s) i 0 ≡ pair_of (get_or s (2 * i) 0) (get_or s (2 * i + 1) 0))
  unfolding pairs
  pairs_next k p =
      let v : ℕ = pair_of (get_or s (2 * i) 0) (get_or s (2 * i + 1) 0) in
      let w = drop_some (pairs s) i v (pairs (drop (2 * i + 2) s)) (rw (drop_pairs s i h, front2 s (2 * i) k, lt-ltb _ _ p)) in
      (w.0, w.1)

  -- two bytes that are no digits
  pub pairs_other : 2 * i + 1 < length s → 256 ≤ pair_of (get_or s (2 * i) 0) (get_or s (2 * i + 1) 0) → length (pairs s) ≡ i
  unfolding pairs
  pairs_other k p = drop_none (pairs s) i h (rw (drop_pairs s i h, front2 s (2 * i) k, le-ltb _ _ p))

  -- fewer than two more
  pub pairs_end : length s ≤ 2 * i + 1 → length (pairs s) ≡ i
  pairs_end k = drop_none (pairs s) i h (drop_pairs s i h ∙ short (drop (2 * i) s) (simp length-drop (omega arith)))

-- ---- what a word answers

-- fewer than two digits say no bytes
pub over_short : (s d : List ℕ) → length s ≤ 1 → d ≡ over (pairs s) d
unfolding over
over_short s d h = rw (short s h)

module _ (s : List ℕ) (room : ℕ) where
  pub in_more : (2 * length (pairs s) ≡ length s → ⊥) → pairs_in s room ≡ None
  unfolding pairs_in
  in_more h = rw (ne_eqb _ _ h)

  pub in_full : room < length (pairs s) → pairs_in s room ≡ None
  unfolding pairs_in
  in_full h = rw (lt-leb _ _ h, and_false (eqb (2 * length (pairs s)) (length s)))

  pub in_whole : 2 * length (pairs s) ≡ length s → length (pairs s) ≤ room → pairs_in s room ≡ Some (length (pairs s))
  unfolding pairs_in
  in_whole h k = rw (eq-eqb _ _ h, le-leb _ _ k)

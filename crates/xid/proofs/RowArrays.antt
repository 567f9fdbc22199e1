-- The rows of a table as arrays of three numbers, as `as_chunks` sees them, and what a search by halves among them tells. Assumes nothing.
use Prim.Native.Nat.{ℕ, zero, suc, ◌+◌, ◌*◌, ◌≤◌, ◌<◌}
use native.Mathlib.Nat.{eq-or-lt_of_le, zero-add}
use native.Mathlib.Omega.{arith}
use mathlib.Core.Path.{◌≡◌, refl, sym, ap, ◌∙◌}
use mathlib.Core.List.{List, []}
use mathlib.Core.Bool.{true, false}
use lib.Dec.{ltb}
use lib.ListN.{length, get_or, drop}
use borrow.Author.Tests.{ltb-true, ltb-false}
use Rattle.std.specs.Simd.{first_chunks}
use Rattle.std.specs.List.Sorted.{IsNonDecreasingBy, IsPartitionedBy, IsPartitionPoint}
use Rattle.std.proofs.lemmas.List.{get_or-drop, get_or-take}
use Rattle.std.proofs.lemmas.List.Sorted.{IsPartitionedBy-ltb}
use Rattle.xid.proofs.Choices.{either}
use Rattle.xid.proofs.RowLaws.{apart, below_row, first_le, found, none}
use Rattle.xid.specs.Rows.{class_at, first_at, last_at}
use Rattle.xid.specs.Xid.{class_of, in_order}

pub row_count : (k : ℕ) (t : List ℕ) → length (first_chunks 3 k t) ≡ k
row_count zero t = refl
row_count (suc k) t = ap suc (row_count k (drop 3 t))

-- number i of row j
pub row_number : (k : ℕ) (t : List ℕ) (j i : ℕ) (d : List ℕ) → j < k → i < 3 → get_or (get_or (first_chunks 3 k t) j d) i 0 ≡ get_or t (j * 3 + i) 0
row_number zero t j i d h l = absurd (omega arith)
row_number (suc k) t zero i d h l = get_or-take 3 t i 0 l ∙ ap (λ (n : ℕ). get_or t n 0) (sym (zero-add i))
row_number (suc k) t (suc j) i d h l =
    let e : 3 + (j * 3 + i) ≡ suc j * 3 + i = omega arith in
    row_number k (drop 3 t) j i d (omega arith) l ∙ get_or-drop 3 t (j * 3 + i) 0 ∙ ap (λ (n : ℕ). get_or t n 0) e

module _ (t : List ℕ) (o : in_order t ≡ true) (k : ℕ) (long : length t ≡ k * 3) (c : ℕ) where
  -- the last code points of the rows rise
  pub lasts_parted : IsPartitionedBy (λ (y : List ℕ). ltb (get_or y 1 0) c) (first_chunks 3 k t)
  lasts_parted = IsPartitionedBy-ltb (λ (y : List ℕ). get_or y 1 0) (first_chunks 3 k t) c rise
    where
      rise : IsNonDecreasingBy (λ (y : List ℕ). get_or y 1 0) (first_chunks 3 k t)
      rise i j d h l =
          let m : j < k = omega (arith, row_count k t) in
          rw (row_number k t i 1 d (omega arith) (omega arith), row_number k t j 1 d m (omega arith))
          (either (eq-or-lt_of_le h)
          (λ e. omega (arith, ap (last_at t) e))
          (λ g. omega (arith, apart t i j o g (omega arith), first_le t j o (omega arith))))

  -- the rows below `at` end before c, and those from it on do not
  module _ (at : ℕ) (p : IsPartitionPoint (λ (y : List ℕ). ltb (get_or y 1 0) c ≡ true) (λ (y : List ℕ). ltb (get_or y 1 0) c ≡ false) (first_chunks 3 k t) at) where
    ended : at ≤ k → (j : ℕ) → j < at → last_at t j < c
    ended h j l = ltb-true _ _ (rw (row_number k t j 1 [] (omega arith) (omega arith)) at (p.0 j [] (omega arith) l))

    pub past_all : at ≡ k → class_of t c ≡ 0
    past_all e = none t c at (ended (omega arith)) (λ j l r. absurd (omega arith))

    pub before_row : at < k → c < first_at t at → class_of t c ≡ 0
    before_row h l = none t c at (ended (omega arith)) (below_row t c at o l)

    pub in_row : at < k → first_at t at ≤ c → class_of t c ≡ class_at t at
    in_row h l =
        let there : at < length (first_chunks 3 k t) = omega (arith, row_count k t) in
        found t at c o (omega arith) l (ltb-false _ _ (rw (row_number k t at 1 [] h (omega arith)) at (p.1 at [] (omega arith) there)))

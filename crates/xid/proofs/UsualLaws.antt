-- The usual letters: what the code tells of them without the table is what the table says. Assumes nothing.
use Prim.Native.Nat.{ℕ, ◌+◌, ◌*◌, ◌≤◌, ◌<◌}
use native.Mathlib.Omega.{arith}
use mathlib.Core.Path.{◌≡◌, refl, sym, ap, ◌∙◌}
use mathlib.Core.Bool.{true, false, not, ◌&&◌, ◌||◌}
use lib.ListN.{length}
use lib.Dec.{eqb, leb, lit<}
use borrow.Author.Tests.{eqb-false, not-true}
use native.Mathlib.Nat.{eq-or-lt_of_le}
use Rattle.xid.specs.Table.{table}
use Rattle.xid.specs.Xid.{within, class_of, usual, xid_start, xid_continue, starts, continues}
use Rattle.xid.specs.Rows.{first_at, last_at, class_at}
use Rattle.xid.proofs.Ranges.{below, above, inside, inside_first, above_first, below_last}
use Rattle.xid.proofs.RowLaws.{found}
use Rattle.xid.proofs.Choices.{either, and_true, lt_or_le, or_cases, or_false, or_left, or_right}
use Rattle.xid.proofs.TableLaws.{table_in_order, start_class, continue_class}

-- a row by its number
pub row_class : (j a b k : ℕ) → (first_at table j ≡ a) × (last_at table j ≡ b) × (class_at table j ≡ k) → j * 3 + 2 < length table → (c : ℕ) → a ≤ c → c ≤ b → class_of table c ≡ k
row_class j a b k e r c l h = found table j c table_in_order r (omega (arith, e.0)) (omega (arith, e.1)) ∙ e.2

pub latin_1 : (c : ℕ) → 0xc0 ≤ c → c ≤ 0xd6 → class_of table c ≡ 3
unfolding table
latin_1 = row_class 8 0xc0 0xd6 3 (refl, refl, refl) (lit< tt)

pub latin_2 : (c : ℕ) → 0xd8 ≤ c → c ≤ 0xf6 → class_of table c ≡ 3
unfolding table
latin_2 = row_class 9 0xd8 0xf6 3 (refl, refl, refl) (lit< tt)

pub latin_3 : (c : ℕ) → 0xf8 ≤ c → c ≤ 0x2c1 → class_of table c ≡ 3
unfolding table
latin_3 = row_class 10 0xf8 0x2c1 3 (refl, refl, refl) (lit< tt)

pub greek : (c : ℕ) → 0x3a3 ≤ c → c ≤ 0x3f5 → class_of table c ≡ 3
unfolding table
greek = row_class 25 0x3a3 0x3f5 3 (refl, refl, refl) (lit< tt)

pub cyrillic : (c : ℕ) → 0x3f7 ≤ c → c ≤ 0x481 → class_of table c ≡ 3
unfolding table
cyrillic = row_class 26 0x3f7 0x481 3 (refl, refl, refl) (lit< tt)

pub han : (c : ℕ) → 0x4e00 ≤ c → c ≤ 0xa48c → class_of table c ≡ 3
unfolding table
han = row_class 486 0x4e00 0xa48c 3 (refl, refl, refl) (lit< tt)

pub hangul : (c : ℕ) → 0xac00 ≤ c → c ≤ 0xd7a3 → class_of table c ≡ 3
unfolding table
hangul = row_class 576 0xac00 0xd7a3 3 (refl, refl, refl) (lit< tt)

-- ---- rows with a character between them that lies in none

after : (c n : ℕ) → n ≤ c → (c ≡ n → ⊥) → n < c
after c n l h = either (eq-or-lt_of_le l) (λ e. absurd (h (sym e))) (λ g. g)

pub latin : (c : ℕ) → 0xc0 ≤ c → c ≤ 0x2c1 → (c ≡ 0xd7 → ⊥) → (c ≡ 0xf7 → ⊥) → class_of table c ≡ 3
latin c l h n m =
    either (lt_or_le c 0xd7) (λ x. latin_1 c l (omega arith))
    (λ x. either (lt_or_le c 0xf7) (λ y. latin_2 c (after c 0xd7 x n) (omega arith)) (λ y. latin_3 c (after c 0xf7 y m) h))

pub greek_cyrillic : (c : ℕ) → 0x3a3 ≤ c → c ≤ 0x481 → (c ≡ 0x3f6 → ⊥) → class_of table c ≡ 3
greek_cyrillic c l h n = either (lt_or_le c 0x3f6) (λ x. greek c l (omega arith)) (λ x. cyrillic c (after c 0x3f6 x n) h)

-- ---- the usual letters, range by range

module _ (c : ℕ) where
  pub below_latin : c < 0xc0 → usual c ≡ false
  unfolding usual
  below_latin h = rw (below 0xc0 0x2c1 c h, below 0x3a3 0x481 c (omega arith), below 0x4e00 0xa48c c (omega arith), below 0xac00 0xd7a3 c (omega arith))

  pub in_latin : 0xc0 ≤ c → c ≤ 0x2c1 → usual c ≡ not (eqb c 0xd7 || eqb c 0xf7)
  unfolding usual
  in_latin h l =
      rw (inside 0xc0 0x2c1 c h l, below 0x3a3 0x481 c (omega arith), below 0x4e00 0xa48c c (omega arith), below 0xac00 0xd7a3 c (omega arith))
      (or_false (not (eqb c 0xd7 || eqb c 0xf7)))

  pub below_greek : 0x2c1 < c → c < 0x3a3 → usual c ≡ false
  unfolding usual
  below_greek h l = rw (above 0xc0 0x2c1 c h, below 0x3a3 0x481 c l, below 0x4e00 0xa48c c (omega arith), below 0xac00 0xd7a3 c (omega arith))

  pub in_greek : 0x3a3 ≤ c → c ≤ 0x481 → usual c ≡ not (eqb c 0x3f6)
  unfolding usual
  in_greek h l =
      rw (above 0xc0 0x2c1 c (omega arith), inside 0x3a3 0x481 c h l, below 0x4e00 0xa48c c (omega arith), below 0xac00 0xd7a3 c (omega arith))
      (or_false (not (eqb c 0x3f6)))

  pub below_han : 0x481 < c → c < 0x4e00 → usual c ≡ false
  unfolding usual
  below_han h l = rw (above 0xc0 0x2c1 c (omega arith), above 0x3a3 0x481 c h, below 0x4e00 0xa48c c l, below 0xac00 0xd7a3 c (omega arith))

  pub in_han : 0x4e00 ≤ c → c ≤ 0xa48c → usual c ≡ true
  unfolding usual
  in_han h l = rw (above 0xc0 0x2c1 c (omega arith), above 0x3a3 0x481 c (omega arith), inside 0x4e00 0xa48c c h l)

  pub below_hangul : 0xa48c < c → c < 0xac00 → usual c ≡ false
  unfolding usual
  below_hangul h l = rw (above 0xc0 0x2c1 c (omega arith), above 0x3a3 0x481 c (omega arith), above 0x4e00 0xa48c c h, below 0xac00 0xd7a3 c l)

  pub in_hangul : 0xac00 ≤ c → usual c ≡ leb c 0xd7a3
  unfolding usual
  in_hangul h = rw (above 0xc0 0x2c1 c (omega arith), above 0x3a3 0x481 c (omega arith), above 0x4e00 0xa48c c (omega arith)) (inside_first 0xac00 0xd7a3 c h)

-- a usual letter starts a name and goes on in one
pub usual_class : (c : ℕ) → usual c ≡ true → class_of table c ≡ 3
unfolding usual
usual_class c e =
    either (or_cases (within 0xc0 0x2c1 c && not (eqb c 0xd7 || eqb c 0xf7)) _ e) (λ a. of_latin (and_true (within 0xc0 0x2c1 c) _ a))
    (λ f. either (or_cases (within 0x3a3 0x481 c && not (eqb c 0x3f6)) _ f) (λ a. of_greek (and_true (within 0x3a3 0x481 c) _ a))
    (λ g. either (or_cases (within 0x4e00 0xa48c c) _ g)
    (λ a. han c (above_first 0x4e00 0xa48c c a) (below_last 0x4e00 0xa48c c a))
    (λ a. hangul c (above_first 0xac00 0xd7a3 c a) (below_last 0xac00 0xd7a3 c a))))
  where
    of_latin : (within 0xc0 0x2c1 c ≡ true) × (not (eqb c 0xd7 || eqb c 0xf7) ≡ true) → class_of table c ≡ 3
    of_latin a =
        let n = not-true (eqb c 0xd7 || eqb c 0xf7) a.1 in
        latin c (above_first 0xc0 0x2c1 c a.0) (below_last 0xc0 0x2c1 c a.0) (eqb-false c 0xd7 (or_left (eqb c 0xd7) (eqb c 0xf7) n)) (eqb-false c 0xf7 (or_right (eqb c 0xd7) (eqb c 0xf7) n))

    of_greek : (within 0x3a3 0x481 c ≡ true) × (not (eqb c 0x3f6) ≡ true) → class_of table c ≡ 3
    of_greek a = greek_cyrillic c (above_first 0x3a3 0x481 c a.0) (below_last 0x3a3 0x481 c a.0) (eqb-false c 0x3f6 (not-true (eqb c 0x3f6) a.1))

pub usual_start : (c : ℕ) → usual c ≡ true → xid_start c ≡ true
usual_start c e = start_class c ∙ ap starts (usual_class c e)

pub usual_continue : (c : ℕ) → usual c ≡ true → xid_continue c ≡ true
usual_continue c e = continue_class c ∙ ap continues (usual_class c e)

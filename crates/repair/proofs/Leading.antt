-- Laws of `leading`: how many entries meet a test from the first on, and the loops that count them. Assumes nothing.
use Prim.Native.Nat.{◌+◌, ◌<◌, ◌≤◌, suc, zero, ℕ}
use native.Mathlib.Nat.{le_of_suc-le-suc, not-suc-le-zero}
use native.Mathlib.Numerals.{add-one}
use native.Mathlib.Omega.{arith}
use mathlib.Core.Bool.{Bool, cond, true, false}
use mathlib.Core.List.{List, [], ◌∷◌}
use mathlib.Core.Path.{◌∙◌, ◌≡◌, ap, ap₂, refl, sym}
use lib.ListN.{drop, drop_of_length-le, get_or, length}
use lib.Seq.{drop-cons}
use Rattle.repair.specs.Repair.{leading, no_entry}
use Rattle.rows.proofs.RowLaws.{entries_at, length_entries}
use Rattle.rows.specs.Rows.{entries_of, entry_at}
use Rattle.rows.specs.declared.Entry.{Entry}
use Rattle.text.proofs.Choices.{cond_cases}

-- ---- over any list

module _ (p : Entry → Bool) where
  pub lead_le : (l : List Entry) → leading p l ≤ length l
  unfolding leading
  lead_le [] = omega arith
  lead_le (x ∷ l) = let h = lead_le l in cond_cases (λ (n : ℕ). n ≤ suc (length l)) (p x) (suc (leading p l)) 0 (λ e. omega arith) (λ e. omega arith)

  -- those in front meet it
  pub lead_at : (l : List Entry) (k : ℕ) → k < leading p l → p (get_or l k no_entry) ≡ true
  unfolding leading
  lead_at [] k h = absurd (not-suc-le-zero h)
  lead_at (x ∷ l) k h = go (p x) refl k h (λ j q. lead_at l j q)
    where
      go : (b : Bool) → p x ≡ b → (k : ℕ) → k < cond b (suc (leading p l)) 0 → ((j : ℕ) → j < leading p l → p (get_or l j no_entry) ≡ true) → p (get_or (x ∷ l) k no_entry) ≡ true
      go true e zero h f = e
      go true e (suc k) h f = f k (le_of_suc-le-suc h)
      go false e k h f = absurd (not-suc-le-zero h)

  -- and the next one does not
  pub lead_not : (l : List Entry) → leading p l < length l → p (get_or l (leading p l) no_entry) ≡ false
  unfolding leading
  lead_not [] h = absurd (not-suc-le-zero h)
  lead_not (x ∷ l) h = go (p x) refl h (λ q. lead_not l q)
    where
      go : (b : Bool) → p x ≡ b → cond b (suc (leading p l)) 0 < suc (length l) → (leading p l < length l → p (get_or l (leading p l) no_entry) ≡ false) → p (get_or (x ∷ l) (cond b (suc (leading p l)) 0) no_entry) ≡ false
      go true e h f = f (le_of_suc-le-suc h)
      go false e h f = e

  -- counting may start behind some that meet it
  pub lead_skip : (l : List Entry) (i : ℕ) → i ≤ leading p l → i + leading p (drop i l) ≡ leading p l
  unfolding leading
  lead_skip l zero h = omega arith
  lead_skip [] (suc i) h = absurd (not-suc-le-zero h)
  lead_skip (x ∷ l) (suc i) h = go (p x) h (λ q. lead_skip l i q)
    where
      go : (b : Bool) → suc i ≤ cond b (suc (leading p l)) 0 → (i ≤ leading p l → i + leading p (drop i l) ≡ leading p l) → suc i + leading p (drop i l) ≡ cond b (suc (leading p l)) 0
      go true h f = let w = f (le_of_suc-le-suc h) in omega arith
      go false h f = absurd (not-suc-le-zero h)

  lead_next : (l : List Entry) (i : ℕ) → i < length l → leading p (drop i l) ≡ cond (p (get_or l i no_entry)) (suc (leading p (drop (i + 1) l))) 0
  unfolding leading
  lead_next l i h = ap (leading p) (drop-cons l i no_entry h) ∙ ap (λ (n : ℕ). cond (p (get_or l i no_entry)) (suc (leading p (drop n l))) 0) (sym (add-one i))

-- tests that agree count the same
pub lead_same : (p q : Entry → Bool) (l : List Entry) → ((x : Entry) → p x ≡ q x) → leading p l ≡ leading q l
unfolding leading
lead_same p q [] f = refl
lead_same p q (x ∷ l) f = ap₂ (λ (b : Bool) (n : ℕ). cond b (suc n) 0) (f x) (lead_same p q l f)

-- and a weaker test at least as many
pub lead_more : (p q : Entry → Bool) (l : List Entry) → ((x : Entry) → p x ≡ true → q x ≡ true) → leading p l ≤ leading q l
unfolding leading
lead_more p q [] f = omega arith
lead_more p q (x ∷ l) f = go (p x) (q x) (f x) (lead_more p q l f)
  where
    go : (a b : Bool) → (a ≡ true → b ≡ true) → leading p l ≤ leading q l → cond a (suc (leading p l)) 0 ≤ cond b (suc (leading q l)) 0
    go true true g h = omega arith
    go true false g h = let z : ◌≡◌ {A = Bool} false true = g refl in let y : ◌≡◌ {A = ℕ} 0 1 = cc in absurd (omega arith)
    go false true g h = omega arith
    go false false g h = omega arith

-- ---- the loop over rows

module _ (p : Entry → Bool) (t : List ℕ) (count i : ℕ) where
  abbrev old : List Entry
  old = entries_of count t

  row_test : (x : Entry) (b : Bool) → i < count → x ≡ entry_at t i → p x ≡ b → leading p (drop i old) ≡ cond b (suc (leading p (drop (i + 1) old))) 0
  row_test x b h is e =
      lead_next p old i (omega (arith, length_entries count t))
      ∙ ap (λ (c : Bool). cond c (suc (leading p (drop (i + 1) old))) 0) (ap p (entries_at count i t no_entry h ∙ sym is) ∙ e)

  pub lead_on : (x : Entry) → i < count → x ≡ entry_at t i → p x ≡ true → i + 1 + leading p (drop (i + 1) (entries_of count t)) ≡ i + leading p (drop i (entries_of count t))
  lead_on x h is e = let w : leading p (drop i old) ≡ suc (leading p (drop (i + 1) old)) = row_test x true h is e in omega arith

  pub lead_out : (x : Entry) → i < count → x ≡ entry_at t i → p x ≡ false → i ≡ i + leading p (drop i (entries_of count t))
  lead_out x h is e = let w : leading p (drop i old) ≡ 0 = row_test x false h is e in omega arith

  pub lead_end : count ≤ i → i ≡ i + leading p (drop i (entries_of count t))
  unfolding leading
  lead_end h =
      let w : drop i old ≡ [] = drop_of_length-le old {i = i} (omega (arith, length_entries count t)) in
      let z : leading p (drop i old) ≡ 0 = ap (leading p) w in
      omega arith

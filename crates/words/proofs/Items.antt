-- Laws of items between commas, and of the numbers that they say. Assumes nothing.
use Rattle.std.specs.Prelude.{Option, Some, None}
use Prim.Native.Nat.{ℕ, suc, ◌+◌, ◌-◌, ◌≤◌, ◌<◌}
use native.Mathlib.Nat.{not-suc-le-zero, le_of_suc-le-suc}
use native.Mathlib.Numerals.{add-one}
use native.Mathlib.Omega.{arith}
use mathlib.Core.Path.{◌≡◌, refl, sym, ap, ◌∙◌}
use mathlib.Core.Bool.{Bool, true, false}
use mathlib.Core.List.{List, [], ◌∷◌}
use lib.ListN.{length, take, drop}
use lib.Seq.{take_all}
use lib.Dec.{ltb, eqb}
use borrow.Author.Tests.{le-leb, lt-leb, eq-eqb, ne_eqb, ltb-true, ltb-false}
use Rattle.lines.specs.Find.{find_of}
use Rattle.words.specs.Dash.{is_dash}
use Rattle.text.specs.Classes.{within}
use Rattle.words.specs.Number.{all_digits, value_from, decimal_from, decimal_of}
use Rattle.words.specs.Small.{small_of}
use Rattle.words.specs.Numbers.{items, smalls, numbers_of, items_in}
use Rattle.words.proofs.Dashes.{dash_is}
use Rattle.text.proofs.Lists.{tail_part}
use Rattle.text.proofs.Choices.{and_false}

-- ---- items

module _ (a : ℕ) (s : List ℕ) where
  last_by : (t : Bool) → eqb a 44 ≡ t → (length s ≤ find_of 44 s → items s ≡ s ∷ [])
      → length (a ∷ s) ≤ find_of 44 (a ∷ s) → items (a ∷ s) ≡ (a ∷ s) ∷ []
  unfolding items find_of
  last_by true e f h = absurd (not-suc-le-zero (rw e at h))
  last_by false e f h = rw (e, f (le_of_suc-le-suc (rw e at h)))

  more_by : (t : Bool) → eqb a 44 ≡ t → (find_of 44 s < length s → items s ≡ take (find_of 44 s) s ∷ items (drop (suc (find_of 44 s)) s))
      → find_of 44 (a ∷ s) < length (a ∷ s) → items (a ∷ s) ≡ take (find_of 44 (a ∷ s)) (a ∷ s) ∷ items (drop (suc (find_of 44 (a ∷ s))) (a ∷ s))
  unfolding items find_of
  more_by true e f h = rw e
  more_by false e f h = rw (e, f (le_of_suc-le-suc (rw e at h)))

-- no comma: one item
pub items_last : (s : List ℕ) → length s ≤ find_of 44 s → items s ≡ s ∷ []
unfolding items
items_last [] h = refl
items_last (a ∷ s) h = last_by a s (eqb a 44) refl (λ k. items_last s k) h

items_next : (s : List ℕ) → find_of 44 s < length s → items s ≡ take (find_of 44 s) s ∷ items (drop (suc (find_of 44 s)) s)
items_next [] h = absurd (not-suc-le-zero h)
items_next (a ∷ s) h = more_by a s (eqb a 44) refl (λ k. items_next s k) h

-- the item before the first comma, and those behind
pub items_more : (s : List ℕ) → find_of 44 s < length s → items s ≡ take (find_of 44 s) s ∷ items (drop (find_of 44 s + 1) s)
items_more s h = rw (add-one (find_of 44 s)) (items_next s h)

items_front : (s : List ℕ) → (ws : List (List ℕ)) × (items s ≡ take (find_of 44 s) s ∷ ws)
items_front s = by (ltb (find_of 44 s) (length s)) refl
  where
    by : (t : Bool) → ltb (find_of 44 s) (length s) ≡ t → (ws : List (List ℕ)) × (items s ≡ take (find_of 44 s) s ∷ ws)
    by true e = (items (drop (find_of 44 s + 1) s), items_more s (ltb-true _ _ e))
    by false e =
        let h : length s ≤ find_of 44 s = ltb-false _ _ e in
        ([], items_last s h ∙ ap (λ (w : List ℕ). w ∷ []) (sym (take_all _ s h)))

-- ---- the numbers that items say

dash_bad : small_of (take (find_of 44 (45 ∷ [])) (45 ∷ [])) ≡ None
unfolding find_of small_of decimal_of decimal_from all_digits value_from within
dash_bad = refl

smalls_bad : (w : List ℕ) (ws : List (List ℕ)) → small_of w ≡ None → smalls (w ∷ ws) ≡ []
unfolding smalls
smalls_bad w ws e = rw e

smalls_value : (w : List ℕ) (ws : List (List ℕ)) (n : ℕ) → small_of w ≡ Some n → smalls (w ∷ ws) ≡ n ∷ smalls ws
unfolding smalls
smalls_value w ws n e = rw e

module _ (s : List ℕ) where
  -- the first item says none
  pub numbers_bad : small_of (take (find_of 44 s) s) ≡ None → (numbers_of s ≡ []) × (0 < length (items s))
  numbers_bad e =
      let w = items_front s in
      (ap smalls w.1 ∙ smalls_bad _ _ e, omega (arith, ap length w.1))

  module _ (n : ℕ) (e : small_of (take (find_of 44 s) s) ≡ Some n) where
    -- the first item says one
    pub numbers_some : (r : List ℕ) × (numbers_of s ≡ n ∷ r)
    numbers_some = let w = items_front s in (smalls w.0, ap smalls w.1 ∙ smalls_value _ _ n e)

    -- and is the last
    pub numbers_last : length s ≤ find_of 44 s → (numbers_of s ≡ n ∷ []) × (length (items s) ≡ 1)
    unfolding smalls
    numbers_last h =
        let w = items_last s h in
        (ap smalls w ∙ smalls_value s [] n (ap small_of (sym (take_all _ s h)) ∙ e), ap length w)

    -- and others stand behind it
    pub numbers_more : find_of 44 s < length s
        → (numbers_of s ≡ n ∷ numbers_of (drop (find_of 44 s + 1) s)) × (length (items s) ≡ suc (length (items (drop (find_of 44 s + 1) s))))
    numbers_more h =
        let w = items_more s h in
        (ap smalls w ∙ smalls_value _ _ n e, ap length w)

-- `-` says none
pub numbers_dash : (s : List ℕ) → is_dash s ≡ true → numbers_of s ≡ []
numbers_dash s e = ap numbers_of (dash_is s e) ∙ (numbers_bad (45 ∷ []) dash_bad).0

-- what is read of the part from a place on is said of what stands there
pub read_at : (s : List ℕ) (at : ℕ) {w : List ℕ} {r q : Option ℕ} → r ≡ small_of w
    → w ≡ take (find_of 44 (take (length s - at) (drop at s))) (take (length s - at) (drop at s))
    → r ≡ q → small_of (take (find_of 44 (drop at s)) (drop at s)) ≡ q
read_at s at {w} {r} {q} e f g = ap small_of (rw tail_part at (sym f)) ∙ sym e ∙ g

-- ---- what a list answers

module _ (s : List ℕ) (room : ℕ) where
  pub count_more : (length (numbers_of s) ≡ length (items s) → ⊥) → items_in s room ≡ None
  unfolding items_in
  count_more h = rw (ne_eqb _ _ h)

  pub count_full : room < length (numbers_of s) → items_in s room ≡ None
  unfolding items_in
  count_full h = rw (lt-leb _ _ h, and_false (eqb (length (numbers_of s)) (length (items s))))

  pub count_whole : length (numbers_of s) ≡ length (items s) → length (numbers_of s) ≤ room → items_in s room ≡ Some (length (numbers_of s))
  unfolding items_in
  count_whole h k = rw (eq-eqb _ _ h, le-leb _ _ k)

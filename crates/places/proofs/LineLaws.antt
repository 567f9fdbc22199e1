-- Lines at an index, as the loops ask for them, and what a line is. Assumes nothing.
use Prim.Native.Nat.{ℕ, zero, suc, ◌+◌, ◌-◌, ◌<◌, ◌≤◌}
use native.Mathlib.Nat.{not-suc-le-zero}
use native.Mathlib.Numerals.{add-one}
use native.Mathlib.Omega.{arith}
use mathlib.Core.Path.{◌≡◌, refl, sym, ap, ◌∙◌}
use mathlib.Core.Logic.{◌⊎◌, inl, inr}
use mathlib.Core.Bool.{Bool}
use mathlib.Core.List.{List, [], ◌∷◌}
use lib.Dec.{eqb}
use lib.ListN.{length, get_or, take, drop, length-take, length-drop}
use borrow.Author.Tests.{eq-eqb, ne_eqb, eqb-true, eqb-false}
use Rattle.std.specs.List.{filter}
use Rattle.text.proofs.Lists.{tail_part}
use Rattle.text.proofs.Choices.{bool_cases, cond_cases, either, lt_or_le}
use Rattle.lines.specs.Find.{find_of}
use Rattle.places.specs.Lines.{count, between, line_feed, line_start, feed_from, line_end}

-- ---- bytes of a class

module _ (p : ℕ → Bool) where
  pub count_le : (s : List ℕ) → count p s ≤ length s
  unfolding count
  count_le [] = omega arith
  count_le (a ∷ s) = let h = count_le s in either (bool_cases (p a)) (λ e. rw e (omega arith)) (λ e. rw e (omega arith))

  -- within a part there are no more of them than the text has bytes
  pub part_count : (s : List ℕ) (a e : ℕ) → count p (between s a e) ≤ length s
  part_count s a e = omega (arith, count_le (between s a e), length-take (e - a) (drop a s), length-drop a s)

  -- those that a filter lets through
  pub filtered : (s : List ℕ) → length (filter p s) ≡ count p s
  unfolding count
  filtered [] = refl
  filtered (a ∷ s) = either (bool_cases (p a)) (λ e. rw e (ap suc (filtered s))) (λ e. rw e (filtered s))

-- ---- where a line starts

module _ (s : List ℕ) where
  -- one byte back
  start_feed : (p : ℕ) → get_or s p 0 ≡ 10 → line_start s (suc p) ≡ suc p
  unfolding line_start
  start_feed p e = rw (eq-eqb _ _ e)

  start_other : (p : ℕ) → (get_or s p 0 ≡ 10 → ⊥) → line_start s (suc p) ≡ line_start s p
  unfolding line_start
  start_other p e = rw (ne_eqb _ _ e)

  pub start_zero : line_start s 0 ≡ 0
  unfolding line_start
  start_zero = refl

  module _ (i p : ℕ) (q : i ≡ suc p) where
    pub start_here : get_or s p 0 ≡ 10 → line_start s i ≡ p + 1
    start_here e = ap (line_start s) q ∙ start_feed p e ∙ sym (add-one p)

    pub start_back : (get_or s p 0 ≡ 10 → ⊥) → line_start s i ≡ line_start s p
    start_back e = ap (line_start s) q ∙ start_other p e

  -- ---- what a line's start is

  -- it stands at or before the place
  pub start_le : (p : ℕ) → line_start s p ≤ p
  unfolding line_start
  start_le zero = omega arith
  start_le (suc p) =
      let h = start_le p in
      either (bool_cases (line_feed (get_or s p 0))) (λ e. rw e (omega arith)) (λ e. rw e (omega arith))

  -- at the text's start or behind an LF
  pub start_behind : (p : ℕ) → (line_start s p ≡ 0) ⊎ ((q : ℕ) × (line_start s p ≡ suc q) × (get_or s q 0 ≡ 10))
  unfolding line_start
  start_behind zero = inl refl
  start_behind (suc p) =
      either (bool_cases (line_feed (get_or s p 0)))
      (λ e. inr (p, rw e, eqb-true _ _ e))
      (λ e. rw e (start_behind p))

  -- and no LF stands between it and the place
  pub start_none : (p q : ℕ) → line_start s p ≤ q → q < p → get_or s q 0 ≡ 10 → ⊥
  unfolding line_start
  start_none zero q h l e = not-suc-le-zero l
  start_none (suc p) q h l e =
      either (bool_cases (line_feed (get_or s p 0)))
      (λ f. let g : suc p ≤ q = rw f at h in absurd (omega arith))
      (λ f.
      let g : line_start s p ≤ q = rw f at h in
      either (lt_or_le q p) (λ m. start_none p q g m e)
      (λ m. let w : q ≡ p = omega arith in eqb-false _ _ f (sym (ap (λ (n : ℕ). get_or s n 0) w) ∙ e)))

-- ---- where a line ends

-- a byte is found within the bytes
pub find_le : (b : ℕ) (s : List ℕ) → find_of b s ≤ length s
unfolding find_of
find_le b [] = omega arith
find_le b (a ∷ s) = let h = find_le b s in either (bool_cases (eqb a b)) (λ e. rw e (omega arith)) (λ e. rw e (omega arith))

module _ (s : List ℕ) (p : ℕ) where
  module _ (n : ℕ) (h : n ≡ find_of 10 (take (length s - p) (drop p s))) where
    pub feed_at : p + n ≡ feed_from s p
    unfolding feed_from
    feed_at = ap (λ (k : ℕ). p + k) (h ∙ ap (find_of 10) (tail_part s p))

    pub feed_within : p ≤ length s → p + n ≤ length s
    feed_within l = omega (arith, h ∙ ap (find_of 10) (tail_part s p), find_le 10 (drop p s), length-drop p s)

  module _ (e : ℕ) (q : e ≡ feed_from s p) where
    pub end_zero : e ≡ 0 → 0 ≡ line_end s p
    unfolding line_end
    end_zero z =
        let w : feed_from s p ≡ 0 = sym q ∙ z in
        cond_cases (λ (x : ℕ). 0 ≡ x) (eqb (get_or s (feed_from s p - 1) 0) 13) (feed_from s p - 1) (feed_from s p) (λ t. omega arith) (λ t. omega arith)

    pub end_cr : get_or s (e - 1) 0 ≡ 13 → e - 1 ≡ line_end s p
    unfolding line_end
    end_cr h = rw (sym q, eq-eqb _ _ h)

    pub end_other : (get_or s (e - 1) 0 ≡ 13 → ⊥) → e ≡ line_end s p
    unfolding line_end
    end_other h = rw (sym q, ne_eqb _ _ h)

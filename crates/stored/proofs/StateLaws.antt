-- The state that numbers say. Assumes nothing.
use Prim.Native.Nat.{ℕ, ◌<◌, ◌≤◌}
use mathlib.Core.Bool.{Bool, true, false, cond, ◌||◌}
use mathlib.Core.List.{List}
use Rattle.std.proofs.Common.{Option, None, Some}
use mathlib.Core.Path.{◌≡◌, refl, sym, ap, ◌∙◌}
use lib.Dec.{ltb}
use lib.ListN.{get_or}
use borrow.Author.Tests.{lt-ltb, le-ltb}
use Rattle.gaps.specs.declared.state.Open.{Open}
use Rattle.pieces.specs.declared.state.Arrival.{Arrival}
use Rattle.stored.specs.Numbers.{gap_of, numbered, state_by, state_of}

-- a state of these
abbrev pub state_with : (taken kept part former : ℕ) → Open → (number reason place : ℕ) → Arrival
state_with taken kept part former o number reason place =
    record { taken = taken; kept = kept; part = part; former = former; gap = o; refusal = record { number = number; reason = reason; place = place } }

module _ (s : List ℕ) (kept : ℕ) where
  abbrev gap_in : Option Open
  gap_in = gap_of (get_or s 2 0) (get_or s 3 0) (get_or s 4 0)

  -- what the code found is open
  pub gap-in : (g : Option Open) (a b d : ℕ) → g ≡ gap_of a b d → a ≡ get_or s 2 0 → b ≡ get_or s 3 0 → d ≡ get_or s 4 0 → g ≡ gap_in
  gap-in g a b d e p q r =
      e ∙ ap (λ (x : ℕ). gap_of x b d) p ∙ ap (λ (x : ℕ). gap_of (get_or s 2 0) x d) q ∙ ap (gap_of (get_or s 2 0) (get_or s 3 0)) r

  pub no_gap : (g : Option Open) → g ≡ gap_in → g ≡ None → None ≡ state_of s kept
  unfolding state_of
  no_gap g e f = sym (ap (λ (x : Option Open). state_by x s kept) (sym e ∙ f))

  module _ (g : Option Open) (o : Open) (e : g ≡ gap_in) (f : g ≡ Some o) where
    -- by whether the refusal's number and reason are below 256
    abbrev by_small : Bool → Bool → Option Arrival
    by_small a b = cond (a || b) None (Some (numbered s kept o))

    by-gap : (a b : Bool) → ltb 255 (get_or s 5 0) ≡ a → ltb 255 (get_or s 7 0) ≡ b → by_small a b ≡ state_of s kept
    unfolding state_of
    by-gap a b p q =
        sym (ap (λ (x : Bool). by_small x b) p) ∙ sym (ap (by_small (ltb 255 (get_or s 5 0))) q)
        ∙ sym (ap (λ (x : Option Open). state_by x s kept) (sym e ∙ f))

    pub no_number : (n : ℕ) → n ≡ get_or s 5 0 → 255 < n → None ≡ state_of s kept
    no_number n p h = by-gap true (ltb 255 (get_or s 7 0)) (ap (ltb 255) (sym p) ∙ lt-ltb 255 n h) refl

    module _ (n m : ℕ) (p : n ≡ get_or s 5 0) (q : m ≡ get_or s 7 0) (h : n ≤ 255) where
      pub no_reason : 255 < m → None ≡ state_of s kept
      no_reason k = by-gap false true (ap (ltb 255) (sym p) ∙ le-ltb 255 n h) (ap (ltb 255) (sym q) ∙ lt-ltb 255 m k)

      pub state_known : m ≤ 255 → (place taken part former : ℕ) → place ≡ get_or s 6 0 → taken ≡ get_or s 0 0 → part ≡ get_or s 1 0 → former ≡ get_or s 8 0
          → Some (state_with taken kept part former o n m place) ≡ state_of s kept
      state_known k place taken part former x y z w =
          ap (λ (v : ℕ). Some (state_with v kept part former o n m place)) y
          ∙ ap (λ (v : ℕ). Some (state_with (get_or s 0 0) kept v former o n m place)) z
          ∙ ap (λ (v : ℕ). Some (state_with (get_or s 0 0) kept (get_or s 1 0) v o n m place)) w
          ∙ ap (λ (v : ℕ). Some (state_with (get_or s 0 0) kept (get_or s 1 0) (get_or s 8 0) o v m place)) p
          ∙ ap (λ (v : ℕ). Some (state_with (get_or s 0 0) kept (get_or s 1 0) (get_or s 8 0) o (get_or s 5 0) v place)) q
          ∙ ap (λ (v : ℕ). Some (state_with (get_or s 0 0) kept (get_or s 1 0) (get_or s 8 0) o (get_or s 5 0) (get_or s 7 0) v)) x
          ∙ by-gap false false (ap (ltb 255) (sym p) ∙ le-ltb 255 n h) (ap (ltb 255) (sym q) ∙ le-ltb 255 m k)

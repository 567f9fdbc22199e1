-- The loops that mark and compare, turn by turn. Assumes nothing.
use Prim.Native.Nat.{ℕ, zero, suc, ◌+◌, ◌-◌, ◌<◌, ◌≤◌}
use native.Mathlib.Numerals.{add-one}
use native.Mathlib.Omega.{arith}
use mathlib.Core.Bool.{Bool, true, false, not, ◌&&◌}
use mathlib.Core.List.{List, [], ◌∷◌}
use mathlib.Core.Path.{◌≡◌, ap, refl, sym, ◌∙◌}
use lib.Dec.{eqb}
use lib.ListN.{length, get_or, drop, set, length-set, drop_of_length-le}
use lib.Seq.{drop-cons}
use Rattle.text.proofs.Choices.{bool_cases, either}
use Rattle.lent.specs.Marks.{marked, kept_by, kept_from}

-- marks change no length
pub marked_length : {X : Type 0} (mark : ℕ → X) (n i : ℕ) (s : List X) → length (marked mark n i s) ≡ length s
unfolding marked
marked_length mark zero i s = refl
marked_length mark (suc n) i s = marked_length mark n (i + 1) (set s i (mark i)) ∙ simp length-set

-- what is left to mark gives the whole
abbrev pub Marking : {X : Type 0} → (ℕ → X) → List X → List X → ℕ → Type 0
Marking mark s₀ s i = marked mark (length s₀ - i) i s ≡ marked mark (length s₀) 0 s₀

module _ {X : Type 0} (mark : ℕ → X) (s₀ : List X) where
  pub mark_starts : Marking mark s₀ s₀ 0
  mark_starts = let e : length s₀ - 0 ≡ length s₀ = omega arith in ap (λ (n : ℕ). marked mark n 0 s₀) e

  pub mark_on : (s : List X) (i : ℕ) (x : X) → Marking mark s₀ s i → i < length s₀ → x ≡ mark i → Marking mark s₀ (set s i x) (i + 1)
  unfolding marked
  mark_on s i x inv h e =
      let n : length s₀ - i ≡ suc (length s₀ - (i + 1)) = omega arith in
      ap (λ (y : X). marked mark (length s₀ - (i + 1)) (i + 1) (set s i y)) e ∙ sym (ap (λ (m : ℕ). marked mark m i s) n) ∙ inv

  pub mark_ends : (s : List X) (i : ℕ) → Marking mark s₀ s i → length s₀ ≤ i → s ≡ marked mark (length s₀) 0 s₀
  unfolding marked
  mark_ends s i inv h = let n : length s₀ - i ≡ 0 = omega arith in sym (ap (λ (m : ℕ). marked mark m i s) n) ∙ inv

-- what is left to compare gives the whole
module _ {X : Type 0} (eq : X → X → Bool) (mark : ℕ → X) (s : List X) (from i : ℕ) (inv : kept_by eq mark (drop i s) i ≡ kept_by eq mark (drop from s) from) where
  module _ (h : i < length s) (a x : X) (here : a ≡ get_or s i a) (e : x ≡ mark i) where
    front : drop i s ≡ a ∷ drop (i + 1) s
    front = rw (add-one i) (drop-cons s i a h ∙ ap (λ (y : X). y ∷ drop (suc i) s) (sym here))

    test : (b : Bool) → eq a x ≡ b → eq a (mark i) ≡ b
    test b q = ap (eq a) (sym e) ∙ q

    pub kept_off : true ≡ not (eq a x) → false ≡ kept_by eq mark (drop from s) from
    unfolding kept_by
    kept_off n = sym (rw front (simp (test false (either (bool_cases (eq a x)) (λ t. cc (n, ap not t)) (λ f. f))))) ∙ inv

    pub kept_on : false ≡ not (eq a x) → kept_by eq mark (drop (i + 1) s) (i + 1) ≡ kept_by eq mark (drop from s) from
    unfolding kept_by
    kept_on n = sym (rw front (simp (test true (either (bool_cases (eq a x)) (λ t. t) (λ f. cc (n, ap not f)))))) ∙ inv

  pub kept_ends : length s ≤ i → true ≡ kept_by eq mark (drop from s) from
  unfolding kept_by
  kept_ends h = sym (ap (λ (l : List X). kept_by eq mark l i) (drop_of_length-le s h)) ∙ inv

-- numbers are compared as numbers
pub kept_numbers : (mark : ℕ → ℕ) (s : List ℕ) (i : ℕ) → kept_by eqb mark s i ≡ kept_from mark s i
unfolding kept_by kept_from
kept_numbers mark [] i = refl
kept_numbers mark (a ∷ s) i = ap (λ (b : Bool). eqb a (mark i) && b) (kept_numbers mark s (i + 1))

-- How many bytes a word says, and the word that stands for the end. Assumes nothing.
use Rattle.std.specs.Prelude.{Option, Some, None}
use Prim.Native.Nat.{ℕ, ◌*◌, ◌≤◌}
use native.Mathlib.Omega.{arith}
use mathlib.Core.Bool.{Bool, true, ◌&&◌}
use mathlib.Core.List.{List, [], ◌∷◌}
use mathlib.Core.Path.{◌≡◌, refl, sym, ap, subst, ◌∙◌}
use lib.Dec.{eqb, leb}
use lib.ListN.{length}
use lib.Pointwise.{pointwise}
use borrow.Author.Tests.{leb-true, ne_eqb}
use Rattle.text.proofs.Choices.{and_true, and_false, and_one, cond_cases}
use Rattle.words.specs.Dash.{is_dash}
use Rattle.words.specs.Hex.{hex_in, pairs, pairs_in}
use Rattle.words.proofs.Dashes.{dash_is}
use Rattle.arrivals.specs.Any.{is_end}

abbrev bytes_of : Option ℕ → ℕ
bytes_of (Some n) = n
bytes_of None = 0

abbrev Says : Option ℕ → Type 0
Says (Some n) = Unit
Says None = ⊥

module _ (w : List ℕ) (room n : ℕ) where
  abbrev Fits : Option ℕ → Type 0
  Fits h = h ≡ Some n → (n ≡ length (pairs w)) × (n ≤ room)

  bad_fits : Fits None
  bad_fits e = absurd (subst Says (sym e) tt)

  dash_fits : is_dash w ≡ true → Fits (Some 0)
  unfolding pairs
  dash_fits d e = let z : n ≡ 0 = sym (ap bytes_of e) in (z ∙ sym (ap (λ (x : List ℕ). length (pairs x)) (dash_is w d)), omega (arith, z))

  pairs_fits : Fits (pairs_in w room)
  unfolding pairs_in
  pairs_fits =
      cond_cases Fits (eqb (2 * length (pairs w)) (length w) && leb (length (pairs w)) room) _ _
      (λ t e. let z : n ≡ length (pairs w) = sym (ap bytes_of e) in
      (z, omega (arith, z, leb-true (length (pairs w)) room (and_true (eqb (2 * length (pairs w)) (length w)) _ t).1)))
      (λ f. bad_fits)

  -- as many as its pairs, and there is room for them
  pub hex_fits : hex_in w room ≡ Some n → (n ≡ length (pairs w)) × (n ≤ room)
  unfolding hex_in
  hex_fits = cond_cases Fits (is_dash w) _ _ dash_fits (λ d. cond_cases Fits (eqb (length w) 0) _ _ (λ z. bad_fits) (λ z. pairs_fits))

-- ---- `end`

-- a word that compares as the same as `end` is that word
pub end_same : (s : List ℕ) → pointwise eqb s (101 ∷ 110 ∷ 100 ∷ []) ≡ is_end s
unfolding is_end
end_same [] = refl
end_same (a ∷ []) = and_false (eqb a 101)
end_same (a ∷ b ∷ []) = ap (λ (t : Bool). eqb a 101 && t) (and_false (eqb b 110)) ∙ and_false (eqb a 101)
end_same (a ∷ b ∷ e ∷ []) = ap (λ (t : Bool). eqb a 101 && (eqb b 110 && t)) (and_one (eqb e 100))
end_same (a ∷ b ∷ e ∷ x ∷ s) =
    ap (λ (t : Bool). eqb a 101 && (eqb b 110 && t)) (and_false (eqb e 100)) ∙ ap (λ (t : Bool). eqb a 101 && t) (and_false (eqb b 110)) ∙ and_false (eqb a 101)
    ∙ sym (ap (λ (t : Bool). t && (eqb a 101 && (eqb b 110 && eqb e 100))) (ne_eqb (length (a ∷ b ∷ e ∷ x ∷ s)) 3 (λ h. omega arith)))

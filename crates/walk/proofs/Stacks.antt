-- A stack that lies in an array: what a store and a fewer count do to it. Assumes nothing.
use Prim.Native.Nat.{ℕ, zero, suc, ◌+◌, ◌-◌, ◌<◌, ◌≤◌}
use native.Mathlib.Nat.{not-suc-le-zero}
use native.Mathlib.Numerals.{add-one}
use native.Mathlib.Omega.{arith}
use mathlib.Core.Path.{◌≡◌, refl, sym, ap, ◌∙◌}
use mathlib.Core.List.{List, [], ◌∷◌}
use lib.ListN.{length, set, get_or}
use lib.Seq.{get_or-set_same, get_or-set_other}

-- the first d of a stack that lies in an array, innermost first
abbrev pub stack_of : {A : Type 0} → A → List A → ℕ → List A
stack_of z a zero = []
stack_of z a (suc d) = get_or a d z ∷ stack_of z a d

module _ {A : Type 0} (z : A) where
  stack_below : (a : List A) (x : A) (d e : ℕ) → d ≤ e → stack_of z (set a e x) d ≡ stack_of z a d
  stack_below a x zero e h = refl
  stack_below a x (suc d) e h =
      ap (λ (y : A). y ∷ stack_of z (set a e x) d) (get_or-set_other a e d x z (λ q. absurd (omega arith)))
      ∙ ap (λ (s : List A). get_or a d z ∷ s) (stack_below a x d e (omega arith))

  pub stack_push : (a : List A) (x : A) (d : ℕ) → d < length a → stack_of z (set a d x) (d + 1) ≡ x ∷ stack_of z a d
  stack_push a x d h =
      ap (stack_of z (set a d x)) (add-one d)
      ∙ ap (λ (y : A). y ∷ stack_of z (set a d x) d) (get_or-set_same a d x z h)
      ∙ ap (λ (s : List A). x ∷ s) (stack_below a x d d (omega arith))

  pub stack_pop : (a : List A) (d : ℕ) → 0 < d → stack_of z a d ≡ get_or a (d - 1) z ∷ stack_of z a (d - 1)
  stack_pop a zero h = absurd (not-suc-le-zero h)
  stack_pop a (suc d) h = let e : suc d - 1 ≡ d = omega arith in sym (ap (λ (n : ℕ). get_or a n z ∷ stack_of z a n) e)

  pub stack_length : (a : List A) (d : ℕ) → length (stack_of z a d) ≡ d
  stack_length a zero = refl
  stack_length a (suc d) = ap suc (stack_length a d)

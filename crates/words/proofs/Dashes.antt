-- Laws of the word that stands for nothing. Assumes nothing.
use Prim.Native.Nat.{ℕ}
use native.Mathlib.Omega.{arith}
use mathlib.Core.Path.{◌≡◌, refl, sym, ap, ◌∙◌}
use mathlib.Core.Bool.{Bool, true, ◌&&◌}
use mathlib.Core.List.{List, [], ◌∷◌}
use lib.ListN.{length, get_or}
use lib.Dec.{eqb}
use lib.Pointwise.{pointwise}
use borrow.Author.Tests.{eqb-true, ne_eqb}
use Rattle.words.specs.Dash.{is_dash}
use Rattle.text.proofs.Choices.{and_true, and_false, and_one}

-- it is one byte
pub dash_is : (s : List ℕ) → is_dash s ≡ true → s ≡ 45 ∷ []
unfolding is_dash
dash_is s e =
    let both = and_true (eqb (length s) 1) (eqb (get_or s 0 0) 45) e in
    one s (eqb-true _ _ both.0) (eqb-true _ _ both.1)
  where
    one : (s : List ℕ) → length s ≡ 1 → get_or s 0 0 ≡ 45 → s ≡ 45 ∷ []
    one [] n a = absurd (omega arith)
    one (b ∷ []) n a = ap (λ (x : ℕ). x ∷ []) a
    one (b ∷ c ∷ s) n a = absurd (omega arith)

-- and compares as the same as `-`
pub dash_same : (s : List ℕ) → pointwise eqb s (45 ∷ []) ≡ is_dash s
unfolding is_dash
dash_same [] = refl
dash_same (a ∷ []) = and_one (eqb a 45)
dash_same (a ∷ b ∷ s) = and_false (eqb a 45) ∙ sym (ap (λ (t : Bool). t && eqb a 45) (ne_eqb (length (a ∷ b ∷ s)) 1 (λ e. omega arith)))

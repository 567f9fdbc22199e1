-- A sign stands before a number below zero only. Assumes nothing.
use Prim.Native.Nat.{ℕ, zero, suc, ◌<◌}
use native.Mathlib.Omega.{arith}
use mathlib.Core.Bool.{Bool, true, false}
use mathlib.Core.List.{◌∷◌}
use mathlib.Core.Path.{◌≡◌, refl}
use Rattle.integers.specs.Range.{signed_of}
use Rattle.lines.specs.Decimal.{decimal}
use Rattle.show.specs.Integers.{signed_text}

-- below zero
pub signed_minus : (minus : Bool) (n : ℕ) → minus ≡ true → 0 < n → 45 ∷ decimal n ≡ signed_text (signed_of minus n)
signed_minus false n e h = cc
signed_minus true zero e h = absurd (omega arith)
signed_minus true (suc n) e h = refl

-- at zero or above
pub signed_plain : (minus : Bool) (n : ℕ) → (minus ≡ true → 0 < n → ⊥) → decimal n ≡ signed_text (signed_of minus n)
signed_plain false n h = refl
signed_plain true zero h = refl
signed_plain true (suc n) h = absurd (h refl (omega arith))

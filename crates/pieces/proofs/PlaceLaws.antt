-- The later and the sooner of two places. Assumes nothing.
use Prim.Native.Nat.{ℕ, ◌≤◌, max, min}
use native.Mathlib.Nat.{max-eq_left, max-eq_right, min-eq_left, min-eq_right}
use native.Mathlib.Omega.{arith}
use mathlib.Core.Path.{◌≡◌, sym, ◌∙◌}
use borrow.Author.Tests.{le-leb, lt-leb}
use Rattle.text.proofs.Choices.{either, lt_or_le}
use Rattle.pieces.specs.Come.{later, sooner}

pub later_left : (a b : ℕ) → b ≤ a → later a b ≡ a
unfolding later
later_left a b h = either (lt_or_le b a) (λ l. rw (lt-leb a b l)) (λ l. rw (le-leb a b l) (omega arith))

pub later_right : (a b : ℕ) → a ≤ b → later a b ≡ b
unfolding later
later_right a b h = rw (le-leb a b h)

pub sooner_left : (a b : ℕ) → a ≤ b → sooner a b ≡ a
unfolding sooner
sooner_left a b h = rw (le-leb a b h)

pub sooner_right : (a b : ℕ) → b ≤ a → sooner a b ≡ b
unfolding sooner
sooner_right a b h = either (lt_or_le b a) (λ l. rw (lt-leb a b l)) (λ l. rw (le-leb a b l) (omega arith))

-- they are the greater and the less
pub later_max : (a b : ℕ) → max a b ≡ later a b
later_max a b =
    either (lt_or_le b a) (λ l. let h : b ≤ a = omega arith in max-eq_left h ∙ sym (later_left a b h)) (λ h. max-eq_right h ∙ sym (later_right a b h))

pub sooner_min : (a b : ℕ) → min a b ≡ sooner a b
sooner_min a b =
    either (lt_or_le b a) (λ l. let h : b ≤ a = omega arith in min-eq_right h ∙ sym (sooner_right a b h)) (λ h. min-eq_left h ∙ sym (sooner_left a b h))

-- Laws of sign and prefix: they lie within the part, and the base is one of 2 to 16. Assumes nothing.
use Prim.Native.Nat.{◌+◌, ◌<◌, ◌≤◌, ℕ}
use native.Mathlib.Omega.{arith}
use mathlib.Core.List.{List, [], ◌∷◌}
use mathlib.Core.Path.{◌≡◌}
use lib.Dec.{eqb}
use lib.ListN.{drop, get_or, length, length-drop}
use Rattle.integers.specs.Front.{front_of, prefix_by, prefix_of, sign_by, sign_of}
use Rattle.integers.specs.declared.front.Prefix.{Prefix}
use Rattle.integers.specs.declared.front.Sign.{Sign}
use Rattle.text.proofs.Choices.{bool_cases, either}

pub sign_by_le : (a : ℕ) → (sign_by a).end ≤ 1
sign_by_le a =
    either (bool_cases (eqb a 0x2b)) (λ p. rw p (omega arith)) λ p.
    either (bool_cases (eqb a 0x2d)) (λ q. rw (p, q) (omega arith)) (λ q. rw (p, q) (omega arith))

pub sign_le : (s : List ℕ) → (sign_of s).end ≤ length s
unfolding sign_of
sign_le [] = omega arith
sign_le (a ∷ s) = omega (arith, sign_by_le a)

pub prefix_by_le : (b : ℕ) → ((prefix_by b).end ≤ 2) × (0 < (prefix_by b).base) × ((prefix_by b).base ≤ 16)
prefix_by_le b =
    either (bool_cases (eqb b 0x62)) (λ p. rw p (omega arith, omega arith, omega arith)) λ p.
    either (bool_cases (eqb b 0x6f)) (λ q. rw (p, q) (omega arith, omega arith, omega arith)) λ q.
    either (bool_cases (eqb b 0x78)) (λ r. rw (p, q, r) (omega arith, omega arith, omega arith)) (λ r. rw (p, q, r) (omega arith, omega arith, omega arith))

pub prefix_le : (s : List ℕ) → (prefix_of s).end ≤ length s
unfolding prefix_of
prefix_le [] = omega arith
prefix_le (a ∷ []) = either (bool_cases (eqb a 0x30)) (λ p. rw p (omega arith)) (λ p. rw p (omega arith))
prefix_le (a ∷ b ∷ s) = either (bool_cases (eqb a 0x30)) (λ p. rw p (omega (arith, (prefix_by_le b).0))) (λ p. rw p (omega arith))

pub base_fits : (s : List ℕ) → (0 < (prefix_of s).base) × ((prefix_of s).base ≤ 16)
unfolding prefix_of
base_fits s = either (bool_cases (eqb (get_or s 0 0) 0x30)) (λ p. rw p ((prefix_by_le (get_or s 1 0)).1, (prefix_by_le (get_or s 1 0)).2)) (λ p. rw p (omega arith, omega arith))

pub front_le : (s : List ℕ) → (front_of s).end ≤ length s
unfolding front_of
front_le s = omega (arith, sign_le s, prefix_le (drop (sign_of s).end s), length-drop (sign_of s).end s)

pub front_base : (s : List ℕ) → (0 < (front_of s).base) × ((front_of s).base ≤ 16)
unfolding front_of
front_base s = base_fits (drop (sign_of s).end s)

pub front_said : (s : List ℕ) (g : Sign) (p : Prefix) → g ≡ sign_of s → p ≡ prefix_of (drop g.end s) → record { minus = g.minus; base = p.base; end = g.end + p.end } ≡ front_of s
unfolding front_of
front_said s g p eg ep = rw (ep, eg)

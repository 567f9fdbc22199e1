-- A class as the bits of a number, from the byte `0` to `f`: one test is computed over all of them. Assumes nothing.
use Prim.Native.Nat.{ℕ, zero, suc, ◌+◌, ◌-◌, ◌/◌, ◌%◌, ◌^◌, ◌≤◌, ◌<◌}
use native.Mathlib.Omega.{arith}
use mathlib.Core.Bool.{Bool, true, false, not, cond, ◌&&◌}
use mathlib.Core.Path.{◌≡◌, ◌∙◌, ap, refl, subst}
use lib.Dec.{eqb}
use Rattle.text.proofs.Choices.{and_true, either, lt_or_le}

-- the test passes at each number below n
abbrev pub every : (ℕ → Bool) → ℕ → Bool
every f zero = true
every f (suc n) = f n && every f n

at : (f : ℕ → Bool) (n : ℕ) → every f n ≡ true → (k : ℕ) → k < n → f k ≡ true
at f zero e k h = absurd (omega arith)
at f (suc n) e k h =
    let p = and_true (f n) (every f n) e in
    either (lt_or_le k n) (λ l. at f n p.1 k l) (λ l. let q : n ≡ k = omega arith in subst (λ (m : ℕ). f m ≡ true) q p.0)

-- two tests agree
abbrev pub same : Bool → Bool → Bool
same a b = cond a b (not b)

same_true : (a b : Bool) → same a b ≡ true → a ≡ b
same_true true true e = refl
same_true true false e = cc
same_true false true e = cc
same_true false false e = refl

-- the number's bits are the class
abbrev pub bit : ℕ → ℕ → Bool
bit mask k = eqb (mask / 2 ^ k % 2) 1

abbrev pub fits : ℕ → (ℕ → Bool) → Bool
fits mask p = every (λ (k : ℕ). same (bit mask k) (p (k + 0x30))) 55

pub bits : (mask : ℕ) (p : ℕ → Bool) → fits mask p ≡ true → (c : ℕ) → 0x30 ≤ c → c ≤ 0x66 → bit mask (c - 0x30) ≡ p c
bits mask p e c h k =
    let q : c - 0x30 + 0x30 ≡ c = omega arith in
    same_true (bit mask (c - 0x30)) (p (c - 0x30 + 0x30)) (at (λ (k : ℕ). same (bit mask k) (p (k + 0x30))) 55 e (c - 0x30) (omega arith)) ∙ ap p q

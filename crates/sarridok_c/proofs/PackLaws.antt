-- What is packed fits, and is got back. Assumes nothing.
use Prim.Native.Nat.{ℕ, ◌+◌, ◌-◌, ◌*◌, ◌^◌, ◌/◌, ◌%◌, ◌≤◌, ◌<◌}
use native.Mathlib.Omega.{arith}
use mathlib.Core.Path.{◌≡◌}
use lib.Dec.{ltb}
use borrow.Author.Tests.{lt-ltb, le-ltb, ltb-false}
use Rattle.text.proofs.Choices.{cond_cases}
use Rattle.text.specs.declared.refusal.Refusal.{Refusal}
use Rattle.sarridok_c.specs.Packed.{at_most, pair_of, refusal_word}

pub at_most_low : (most n : ℕ) → n ≤ most → at_most most n ≡ n
unfolding at_most
at_most_low most n h = rw (le-ltb _ _ h)

pub at_most_high : (most n : ℕ) → most < n → at_most most n ≡ most
unfolding at_most
at_most_high most n h = rw (lt-ltb _ _ h)

pub at_most_fits : (most n : ℕ) → at_most most n ≤ most
unfolding at_most
at_most_fits most n = cond_cases (λ (k : ℕ). k ≤ most) (ltb most n) most n (λ p. omega arith) (λ p. ltb-false most n p)

-- a pair leaves the top bit free, which is how a refusal is told from what was accepted
pub pair_fits : (high low : ℕ) → pair_of high low < 2 ^ 63
unfolding pair_of
pair_fits high low = omega (arith, at_most_fits (2 ^ 31 - 1) high, at_most_fits (2 ^ 32 - 1) low)

pub refusal_top : (r : Refusal) → 2 ^ 63 ≤ refusal_word r
unfolding refusal_word
refusal_top r = omega arith

-- two numbers that fit are got back
module _ (high low : ℕ) (h : high < 2 ^ 31) (l : low < 2 ^ 32) where
  pub pair_plain : pair_of high low ≡ high * 2 ^ 32 + low
  unfolding pair_of
  pair_plain = rw (at_most_low (2 ^ 31 - 1) high (omega arith), at_most_low (2 ^ 32 - 1) low (omega arith))

  pub pair_high : pair_of high low / 2 ^ 32 ≡ high
  pair_high = rw pair_plain (omega arith)

  pub pair_low : pair_of high low % 2 ^ 32 ≡ low
  pair_low = rw pair_plain (omega arith)

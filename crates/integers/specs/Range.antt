-- When a digit run reads at a width (document 01, demand 2), said plainly over the width's bits and sign:
-- it isn't empty, has no underscore in front, holds only digits below the base and underscores, and its signed value fits.
use Rattle.std.specs.Prelude.{ℕ, ◌+◌, ◌-◌, ◌*◌, ◌^◌, ◌≤◌, ◌<◌, ◌≡◌, Bool, true, false, List, ◌⊎◌, length, get_or, take, ℤ, pos, neg_ℤ, ◌≤ℤ◌}
use Rattle.digits.specs.Digits.{hex_of}
use Rattle.digits.specs.Value.{value_of, Fit, ReadsFrom}

-- The number with a magnitude and a sign.
abbrev pub signed_of : (minus : Bool) (magnitude : ℕ) → ℤ
signed_of false m = pos m
signed_of true m = neg_ℤ (pos m)

-- The least number of a width of so many bits.
abbrev pub lowest : (signed : Bool) (bits : ℕ) → ℤ
lowest false bits = pos 0
lowest true bits = neg_ℤ (pos (2 ^ (bits - 1)))

-- The largest number of a width of so many bits.
abbrev pub highest : (signed : Bool) (bits : ℕ) → ℤ
highest false bits = pos (2 ^ bits - 1)
highest true bits = pos (2 ^ (bits - 1) - 1)

-- The number is one of the width.
abbrev pub InWidth : (signed : Bool) (bits : ℕ) (z : ℤ) → Type 0
InWidth signed bits z = (lowest signed bits ≤ℤ z) × (z ≤ℤ highest signed bits)

-- A run isn't empty and has no underscore in front.
abbrev pub Begun : List ℕ → Type 0
Begun run = (length run ≡ 0 → ⊥) × (get_or run 0 0 ≡ 0x5f → ⊥)

-- A digit run reads as the magnitude `v`.
pub record Reads (signed : Bool) (bits : ℕ) (minus : Bool) (base : ℕ) (run : List ℕ) (v : ℕ) : Type 0 where
  pub begun : Begun run
  pub only : (i : ℕ) → i < length run → Fit base (get_or run i 0)
  pub value : value_of base run ≡ v
  pub fits : InWidth signed bits (signed_of minus v)

-- What stands before the character `i` reads, and this one is no underscore.
pub record Before (limit base : ℕ) (run : List ℕ) (i : ℕ) : Type 0 where
  pub begun : Begun run
  pub inside : i < length run
  pub reads : ReadsFrom limit base 0 (take i run) (value_of base (take i run))
  pub digit : get_or run i 0 ≡ 0x5f → ⊥

-- 9 at the character `i`: it is no digit below the base, and the product was within the limit.
pub record NotBelow (limit base : ℕ) (run : List ℕ) (i : ℕ) : Type 0 where
  pub before : Before limit base run i
  pub product : value_of base (take i run) * base ≤ limit
  pub above : base ≤ hex_of (get_or run i 0)

-- 10 because of the character `i`: the product passes the limit, or the digit is below the base and the sum does.
pub record Passes (limit base : ℕ) (run : List ℕ) (i : ℕ) : Type 0 where
  pub before : Before limit base run i
  pub passes : (limit < value_of base (take i run) * base)
      ⊎ ((hex_of (get_or run i 0) < base) × (limit < value_of base (take i run) * base + hex_of (get_or run i 0)))

-- Laws of hex digits. Assumes nothing.
use Rattle.std.proofs.Common.{Some, None, Option}
use Prim.Native.Nat.{ℕ, ◌+◌, ◌-◌, ◌*◌, ◌/◌, ◌%◌, ◌≤◌, ◌<◌}
use native.Mathlib.Omega.{arith}
use mathlib.Core.Bool.{Bool, true, false}
use mathlib.Core.Path.{◌≡◌, ◌∙◌, refl, sym}
use lib.Dec.{ltb}
use borrow.Author.Tests.{lt-ltb, ltb-false, ltb-true}
use Rattle.hexes.proofs.Bits.{bits, fits}
use Rattle.hexes.specs.inner.Bits.{among}
use Rattle.hexes.specs.Hex.{hex_answer, hex_of}
use Rattle.text.proofs.Choices.{bool_cases, cond_cases, either, lt_or_le}
use Rattle.text.proofs.ClassLaws.{above, below, inside, within_true}
use Rattle.text.specs.Classes.{digit, hex_digit, within}

-- ---- the class outside `0` to `f`

module _ (c : ℕ) where
  pub hex_below : c < 0x30 → hex_digit c ≡ false
  unfolding hex_digit digit
  hex_below h = simp (below 0x30 0x39 c (omega arith), below 0x41 0x46 c (omega arith), below 0x61 0x66 c (omega arith))

  pub hex_above : 0x66 < c → hex_digit c ≡ false
  unfolding hex_digit digit
  hex_above h = simp (above 0x30 0x39 c (omega arith), above 0x41 0x46 c (omega arith), above 0x61 0x66 c (omega arith))

-- ---- the value

pub hex_le : (c : ℕ) → hex_of c ≤ 16
unfolding hex_of
hex_le c =
    cond_cases (λ (n : ℕ). n ≤ 16) (within 0x30 0x39 c) (c - 0x30) _ (λ e. let h = within_true 0x30 0x39 c e in omega arith)
    (λ n1. cond_cases (λ (n : ℕ). n ≤ 16) (within 0x41 0x46 c) (c - 0x37) _ (λ e. let h = within_true 0x41 0x46 c e in omega arith)
    (λ n2. cond_cases (λ (n : ℕ). n ≤ 16) (within 0x61 0x66 c) (c - 0x57) _ (λ e. let h = within_true 0x61 0x66 c e in omega arith)
    (λ n3. omega arith)))

-- the class are the bytes that have a value
hex_class : (c : ℕ) → hex_digit c ≡ ltb (hex_of c) 16
unfolding hex_of hex_digit digit
hex_class c =
    either (bool_cases (within 0x30 0x39 c)) (λ e. let h = within_true 0x30 0x39 c e in rw e (sym (lt-ltb (c - 0x30) 16 (omega arith)))) λ n1.
    either (bool_cases (within 0x41 0x46 c)) (λ e. let h = within_true 0x41 0x46 c e in rw (n1, e) (sym (lt-ltb (c - 0x37) 16 (omega arith)))) λ n2.
    either (bool_cases (within 0x61 0x66 c)) (λ e. let h = within_true 0x61 0x66 c e in rw (n1, n2, e) (sym (lt-ltb (c - 0x57) 16 (omega arith)))) λ n3.
    rw (n1, n2, n3) refl

pub hex_none : (c : ℕ) → hex_digit c ≡ false → hex_of c ≡ 16
hex_none c e = omega (arith, hex_le c, ltb-false (hex_of c) 16 (sym (hex_class c) ∙ e))

-- letters stand 9 behind what their last four bits say
pub hex_value : (c : ℕ) → hex_digit c ≡ true → hex_of c ≡ c % 16 + c / 64 * 9
unfolding hex_of hex_digit digit
hex_value c t =
    either (bool_cases (within 0x30 0x39 c)) (λ e. let h = within_true 0x30 0x39 c e in rw e (omega arith)) λ n1.
    either (bool_cases (within 0x41 0x46 c)) (λ e. let h = within_true 0x41 0x46 c e in rw (n1, e) (omega arith)) λ n2.
    either (bool_cases (within 0x61 0x66 c)) (λ e. let h = within_true 0x61 0x66 c e in rw (n1, n2, e) (omega arith)) λ n3.
    let z : false ≡ true = simp (n1, n2, n3) at t in cc

-- a hex digit is ASCII
pub hex_ascii : (c : ℕ) → (hex_of c ≡ 16 → ⊥) → c < 0x80
hex_ascii c n = either (lt_or_le c 0x80) (λ h. h) (λ h. absurd (n (hex_none c (hex_above c (omega arith)))))

-- ---- what an answer says of the byte

module _ (c : ℕ) where
  pub digit_value : (k : ℕ) → hex_answer c ≡ Some k → k ≡ hex_of c
  digit_value k e = either (bool_cases (hex_digit c)) (λ t. let z : ◌≡◌ {A = Option ℕ} (Some (hex_of c)) (Some k) = rw t at e in cc) (λ n. let z : ◌≡◌ {A = Option ℕ} (None) (Some k) = rw n at e in cc)

  pub digit_lt : (k : ℕ) → hex_answer c ≡ Some k → k < 16
  digit_lt k e = either (bool_cases (hex_digit c)) (λ t. omega (arith, digit_value k e, ltb-true (hex_of c) 16 (sym (hex_class c) ∙ t))) (λ n. let z : ◌≡◌ {A = Option ℕ} (None) (Some k) = rw n at e in let q : ◌≡◌ {A = ℕ} 0 1 = cc in absurd (omega arith))

  pub digit_some : (k : ℕ) → hex_answer c ≡ Some k → hex_of c ≡ 16 → ⊥
  digit_some k e z = omega (arith, z, digit_value k e, digit_lt k e)

  pub no_digit : hex_answer c ≡ None → hex_of c ≡ 16
  no_digit e = either (bool_cases (hex_digit c)) (λ t. let z : ◌≡◌ {A = Option ℕ} (Some (hex_of c)) (None) = rw t at e in cc) (hex_none c)

-- ---- the classes by their bits

module _ (class : ℕ) (p : ℕ → Bool) (e : fits class p ≡ true) (c : ℕ) (low : c < 0x30 → p c ≡ false) (high : 0x66 < c → p c ≡ false) where
  pub among_class : among class c ≡ p c
  unfolding among
  among_class =
      either (lt_or_le c 0x30) (λ l. rw (below 0x30 0x66 c l) (sym (low l))) λ g.
      either (lt_or_le 0x66 c) (λ l. rw (above 0x30 0x66 c l) (sym (high l))) λ h.
      rw (inside 0x30 0x66 c g h) (bits class p e c g h)

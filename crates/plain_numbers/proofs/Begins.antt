-- What begins as a number does: its first byte, its sign, and that no gap stands before it. Assumes nothing.
use Prim.Native.Nat.{ℕ, ◌≤◌, ◌<◌}
use native.Mathlib.Omega.{arith}
use mathlib.Core.Bool.{Bool, true}
use mathlib.Core.List.{List}
use mathlib.Core.Logic.{◌⊎◌, inl, inr}
use mathlib.Core.Path.{◌≡◌, refl}
use lib.Dec.{eqb}
use lib.ListN.{length, drop, get_or}
use borrow.Author.Tests.{eqb-false, eqb-true, le-ltb, lt-ltb, ne_eqb}
use Rattle.text.proofs.Choices.{bool_cases, cond_cases, either}
use Rattle.text.proofs.ClassLaws.{above}
use Rattle.text.specs.Classes.{blank1, digit}
use Rattle.comments.proofs.GapFronts.{clear_front, clear_byte}
use Rattle.comments.specs.Gaps.{gap_of}
use Rattle.comments.specs.declared.gap.Gap.TheVariants.{Clear}
use Rattle.floats.specs.Classes.{sign}
use Rattle.integers.specs.Front.{sign_of}
use Rattle.tokens.specs.Shapes.{mark_kind, shape_of, starts_number}
use Rattle.tokens.specs.declared.shape.Shape.TheVariants.{Number}
use Rattle.plain_numbers.proofs.Runs.{digit_in}

-- a digit or a sign
pub record Begins (a : ℕ) : Type 0 where
  pub lo : 0x2b ≤ a
  pub hi : a ≤ 0x39
  pub not_comma : a ≡ 0x2c → ⊥
  pub not_slash : a ≡ 0x2f → ⊥

-- no sign, or one byte of it
pub sign_cases : (s : List ℕ) → ((sign_of s).end ≡ 0) ⊎ (((sign_of s).end ≡ 1) × (sign (get_or s 0 0) ≡ true))
unfolding sign_of
sign_cases s =
    either (bool_cases (eqb (get_or s 0 0) 0x2b)) (λ p. rw p (inr (refl, refl))) λ p.
    either (bool_cases (eqb (get_or s 0 0) 0x2d)) (λ q. rw (p, q) (inr (refl, refl))) (λ q. rw (p, q) (inl refl))

pub sign_begins : (a : ℕ) → sign a ≡ true → Begins a
sign_begins a e =
    either (bool_cases (eqb a 0x2b))
    (λ p. let q = eqb-true a 0x2b p in record { lo = omega arith; hi = omega arith; not_comma = λ z. omega arith; not_slash = λ z. omega arith })
    (λ p. let q = eqb-true a 0x2d (rw p at e) in record { lo = omega arith; hi = omega arith; not_comma = λ z. omega arith; not_slash = λ z. omega arith })

pub digit_begins : (a : ℕ) → digit a ≡ true → Begins a
digit_begins a e = let q = digit_in a e in record { lo = omega arith; hi = omega arith; not_comma = λ z. omega arith; not_slash = λ z. omega arith }

-- digits behind a sign, or behind none
pub begins : (s : List ℕ) → digit (get_or (drop (sign_of s).end s) 0 0) ≡ true → Begins (get_or s 0 0)
begins s e =
    either (sign_cases s) (λ z. digit_begins (get_or s 0 0) (rw z at e)) (λ z. sign_begins (get_or s 0 0) z.1)

from_zero : (a : ℕ) → 0x2b ≤ a → (a ≡ 0x2b → ⊥) → (a ≡ 0x2c → ⊥) → (a ≡ 0x2d → ⊥) → (a ≡ 0x2e → ⊥) → (a ≡ 0x2f → ⊥) → 0x30 ≤ a
from_zero a lo n1 n2 n3 n4 n5 = omega arith

module _ (a : ℕ) (h : Begins a) where
  begins_mark : mark_kind a ≡ 0
  unfolding mark_kind
  begins_mark =
      rw (ne_eqb a 0x28 (λ z. omega arith), ne_eqb a 0x29 (λ z. omega arith), ne_eqb a 0x5b (λ z. omega arith), ne_eqb a 0x5d (λ z. omega arith), ne_eqb a 0x7b (λ z. omega arith), ne_eqb a 0x7d (λ z. omega arith), ne_eqb a 0x2c h.not_comma, ne_eqb a 0x3a (λ z. omega arith))

  begins_starts : starts_number a ≡ true
  unfolding starts_number
  begins_starts =
      cond_cases (λ (t : Bool). t ≡ true) (eqb a 0x2b) _ _ (λ e. refl) λ e1.
      cond_cases (λ (t : Bool). t ≡ true) (eqb a 0x2d) _ _ (λ e. refl) λ e2.
      cond_cases (λ (t : Bool). t ≡ true) (eqb a 0x2e) _ _ (λ e. refl) λ e3.
      let least = from_zero a h.lo (eqb-false a 0x2b e1) h.not_comma (eqb-false a 0x2d e2) (eqb-false a 0x2e e3) h.not_slash in
      rw (le-ltb a 0x30 least, le-ltb 0x39 a h.hi)

  pub begins_shape : (b c : ℕ) → shape_of a b c ≡ Number
  unfolding shape_of
  begins_shape b c =
      rw (begins_mark, ne_eqb a 0x23 (λ z. omega arith), ne_eqb a 0x22 (λ z. omega arith), ne_eqb a 0x27 (λ z. omega arith), ne_eqb a 0x62 (λ z. omega arith), ne_eqb a 0x72 (λ z. omega arith), begins_starts)

  begins_clear_byte : clear_byte a ≡ true
  unfolding blank1
  begins_clear_byte = rw (lt-ltb a 0x80 (omega arith), above 0x09 0x0d a (omega arith), ne_eqb a 0x20 (λ z. omega arith), ne_eqb a 0x2f h.not_slash)

-- no gap stands before it
pub begins_clear : (s : List ℕ) → 0 < length s → Begins (get_or s 0 0) → gap_of s ≡ Clear 0
begins_clear s p h = clear_front s p (begins_clear_byte (get_or s 0 0) h)

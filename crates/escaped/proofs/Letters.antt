-- The letters of specs/Escape.antt are exactly those that the reader knows. Assumes nothing.
use Prim.Native.Nat.{ℕ, ◌<◌, ◌≤◌}
use native.Mathlib.Omega.{arith}
use mathlib.Core.Bool.{true}
use mathlib.Core.Path.{◌≡◌, refl, subst, sym}
use lib.Dec.{eqb}
use borrow.Author.Tests.{eqb-true}
use Rattle.escapes.specs.Escapes.{simple_of}
use Rattle.escaped.specs.Escape.{Letter}
use Rattle.escaped.specs.Escape as e
use Rattle.text.proofs.Choices.{cond_cases}

-- a letter means what the reader's table says of it
pub letter_simple : {a b : ℕ} → Letter a b → simple_of a ≡ b
unfolding simple_of
letter_simple e.Letter.apostrophe = refl
letter_simple e.Letter.quote = refl
letter_simple e.Letter.backslash = refl
letter_simple e.Letter.n = refl
letter_simple e.Letter.r = refl
letter_simple e.Letter.t = refl
letter_simple e.Letter.nought = refl

-- and that is a byte
pub letter_byte : {a b : ℕ} → Letter a b → b < 256
letter_byte e.Letter.apostrophe = omega arith
letter_byte e.Letter.quote = omega arith
letter_byte e.Letter.backslash = omega arith
letter_byte e.Letter.n = omega arith
letter_byte e.Letter.r = omega arith
letter_byte e.Letter.t = omega arith
letter_byte e.Letter.nought = omega arith

-- where the test holds, the letter is the one that was asked for
told : (a k b : ℕ) → Letter k b → eqb a k ≡ true → b < 256 → Letter a b
told a k b x e h = subst (λ (i : ℕ). Letter i b) (sym (eqb-true a k e)) x

-- what the table knows is a letter
pub simple_letter : (a : ℕ) → simple_of a < 256 → Letter a (simple_of a)
unfolding simple_of
simple_letter a =
    cond_cases Known (eqb a 0x27) _ _ (told a 0x27 0x27 e.Letter.apostrophe)
    (λ n1. cond_cases Known (eqb a 0x22) _ _ (told a 0x22 0x22 e.Letter.quote)
    (λ n2. cond_cases Known (eqb a 0x5C) _ _ (told a 0x5C 0x5C e.Letter.backslash)
    (λ n3. cond_cases Known (eqb a 0x6E) _ _ (told a 0x6E 0x0A e.Letter.n)
    (λ n4. cond_cases Known (eqb a 0x72) _ _ (told a 0x72 0x0D e.Letter.r)
    (λ n5. cond_cases Known (eqb a 0x74) _ _ (told a 0x74 0x09 e.Letter.t)
    (λ n6. cond_cases Known (eqb a 0x30) _ _ (told a 0x30 0x00 e.Letter.nought) (λ n7 h. absurd (omega arith))))))))
  where
    Known : ℕ → Type 0
    Known b = b < 256 → Letter a b

-- what it does not know is none
pub no_letter : (a : ℕ) → 256 ≤ simple_of a → (b : ℕ) → Letter a b → ⊥
no_letter a h b x = omega (arith, letter_simple x, letter_byte x)

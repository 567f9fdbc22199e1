-- An integer of a reading, or a byte literal, is accepted again in the width that its detail says, with the same length. Assumes nothing.
use Rattle.std.proofs.Common.{Ok, Err}
use Rattle.text.specs.Refusals.{Told}
use Rattle.floats.specs.declared.float.FloatSpan.{FloatSpan}
use Prim.Native.Nat.{ℕ}
use native.Mathlib.Omega.{arith}
use mathlib.Core.Bool.{true, false, ◌&&◌}
use mathlib.Core.List.{List, [], ◌∷◌}
use mathlib.Core.Path.{◌≡◌, ap, refl, sym, ◌∙◌}
use lib.Dec.{eqb, leb}
use lib.ListN.{get_or}
use Rattle.text.proofs.Choices.{and_true, cond_cases}
use Rattle.text.specs.Words.{starts_with}
use Rattle.floats.specs.Float.{float_of}
use Rattle.integers.specs.Front.{front_of}
use Rattle.integers.specs.Integer.{any_of, number_read}
use Rattle.integers.specs.Width.{code_of}
use Rattle.integers.specs.declared.integer.Integer.TheVariants as integer
use Rattle.integers.specs.declared.integer.Value.{Value}
use Rattle.integers.specs.declared.width.Width.{Width}
use Rattle.integers.specs.declared.width.Width.TheVariants.{U8}
use Rattle.numbers.specs.Numbers.{float_ahead, number_of, of_float, or_else, or_float}
use Rattle.numbers.specs.declared.Number.{Number}
use Rattle.numbers.specs.declared.Number.TheVariants as number
use Rattle.strings.specs.Chars.{byte_of}
use Rattle.sarridok.specs.Typed.{integer_at}
use Rattle.written.specs.Written.{byte_literal, magnitude_in}
use Rattle.written.proofs.AnyWritten.{any_written}
use Rattle.written.proofs.IntegerWritten.{written_at}

-- an integer at the front of s, in a width and of so many bytes
pub record Again (s : List ℕ) (len detail : ℕ) : Type 0 where
  pub width : Width
  pub width_is : code_of width ≡ detail
  pub value : Value
  pub read : integer_at width s ≡ integer.Read value len

-- a number that is an integer was read as one
of_integer : (w : Width) (n : ℕ) (a : Told (Width × ℕ)) (f : Told FloatSpan) → or_else a f ≡ number.Int w n → a ≡ Ok (w, n)
of_integer w n (Ok (v, m)) f h = let a : v ≡ w = cc in let b : m ≡ n = cc in rw (a, b)
of_integer w n (Err r) f h = absurd (no_float f h)
  where
    no_float : (x : Told FloatSpan) → or_float r x ≡ number.Int w n → ⊥
    no_float (Ok g) =
        cond_cases (λ (y : Number). y ≡ number.Int w n → ⊥) (leb r.place g.len) _ _ (λ s q. (let z : ◌≡◌ {A = ℕ} 0 1 = cc in omega arith)) (λ s q. (let z : ◌≡◌ {A = ℕ} 0 1 = cc in omega arith))
    no_float (Err d) = λ q. (let z : ◌≡◌ {A = ℕ} 0 1 = cc in omega arith)

not_float : (w : Width) (n : ℕ) (f : Told FloatSpan) → of_float f ≡ number.Int w n → ⊥
not_float w n (Ok g) h = let z : ◌≡◌ {A = ℕ} 0 1 = cc in omega arith
not_float w n (Err r) h = let z : ◌≡◌ {A = ℕ} 0 1 = cc in omega arith

number_any : (s : List ℕ) (w : Width) (n : ℕ) → number_of s ≡ number.Int w n → any_of s ≡ Ok (w, n)
unfolding number_of
number_any s w n =
    cond_cases (λ (y : Number). y ≡ number.Int w n → any_of s ≡ Ok (w, n)) (float_ahead s) _ _
    (λ p h. absurd (not_float w n (float_of s) h))
    (λ p h. of_integer w n (any_of s) (float_of s) h)

-- a byte literal that was read begins as one
byte_begins : (s : List ℕ) → (eqb (get_or s 0 0) 0x62 && eqb (get_or s 1 0) 0x27) ≡ true → byte_literal s ≡ true
unfolding starts_with
byte_begins [] h = h
byte_begins (a ∷ []) h = let p = and_true (eqb a 0x62) (eqb 0 0x27) h in rw p.0 p.1
byte_begins (a ∷ b ∷ s) h = let p = and_true (eqb a 0x62) (eqb b 0x27) h in rw (p.0, p.1)

byte-literal : (s : List ℕ) (n c : ℕ) → byte_of s ≡ Ok (n, c) → byte_literal s ≡ true
unfolding byte_of
byte-literal s n c =
    cond_cases (λ (a : Told (ℕ × ℕ)). a ≡ Ok (n, c) → byte_literal s ≡ true) (eqb (get_or s 0 0) 0x62 && eqb (get_or s 1 0) 0x27) _ _
    (λ p h. byte_begins s p)
    (λ p h. let z : ◌≡◌ {A = ℕ} 0 1 = cc in absurd (omega arith))

-- ---- read again

pub number_again : (s : List ℕ) (w : Width) (n : ℕ) → number_of s ≡ number.Int w n → Again s n (code_of w)
number_again s w n e =
    let q = any_written s w n (number_any s w n e) in
    let v : Value = number_read (front_of s).minus (magnitude_in s) in
    record { width = w; width_is = refl; value = v; read = written_at w s q.0 ∙ ap (integer.Read v) (sym q.1) }

pub byte_again : (s : List ℕ) (n c : ℕ) → byte_of s ≡ Ok (n, c) → Again s n (code_of U8)
unfolding integer_at
byte_again s n c e = record { width = U8; width_is = refl; value = record { minus = false; magnitude = c }; read = rw (byte-literal s n c e, e) }

-- The refusals of escapes are inner. Assumes nothing.
use Prim.Native.Nat.{ℕ, ◌+◌, ◌*◌, zero, suc}
use mathlib.Core.Bool.{Bool, false, ◌&&◌}
use mathlib.Core.List.{List, [], ◌∷◌, ◌++◌}
use mathlib.Core.Path.{refl}
use lib.Dec.{eqb, ltb}
use lib.ListN.{drop, get_or}
use Rattle.text.specs.Utf8.{char_len, scalar}
use Rattle.escapes.specs.Escapes.{second_digit, two_digits, close_of, digits_of, unicode_escape, next_byte, with_byte, more_bytes, hex_by, hex_escape, simple_of, escape_of, hex_of}
use Rattle.escapes.specs.declared.answers.Mode.{Mode}
use Rattle.escapes.specs.declared.answers.Mode.TheVariants.{Str, Char, Bytes}
use Rattle.escapes.specs.declared.answers.EscapeAnswer.{EscapeAnswer}
use Rattle.escapes.specs.declared.answers.EscapeAnswer.TheVariants.{Ascii, Utf8, Refused}
use Rattle.inner.specs.Inner.{Inner, within}
use Rattle.inner.proofs.Both.{both}

abbrev pub Inner-escape : EscapeAnswer → Type 0
Inner-escape (Ascii b n) = Unit
Inner-escape (Utf8 c n) = Unit
Inner-escape (Refused r) = Inner r

second-digit : (h at : ℕ) (t : List ℕ) → Inner-escape (second_digit h at t)
unfolding second_digit within
second-digit h at [] = refl
second-digit h at (b ∷ t) = both Inner-escape (eqb (hex_of b) 16) refl tt

two-digits : (at : ℕ) (t : List ℕ) → Inner-escape (two_digits at t)
unfolding two_digits within
two-digits at [] = refl
two-digits at (b ∷ t) = both Inner-escape (eqb (hex_of b) 16) refl (second-digit (hex_of b) (at + 1) t)

close : (empty : Bool) (v at : ℕ) (t : List ℕ) → Inner-escape (close_of empty v at t)
unfolding close_of within
close empty v at [] = both Inner-escape empty refl refl
close empty v at (b ∷ t) = both Inner-escape empty refl (both Inner-escape (eqb b 0x7D) (both Inner-escape (scalar v) tt refl) refl)

digits : (left v at : ℕ) (t : List ℕ) → Inner-escape (digits_of left v at t)
unfolding digits_of within
digits zero v at t = close false v at t
digits (suc left) v at [] = refl
digits (suc left) v at (b ∷ t) =
    both Inner-escape (eqb b 0x7D) (close (eqb (suc left) 6) v at (b ∷ t)) (both Inner-escape (eqb (hex_of b) 16) refl (digits left (v * 16 + hex_of b) (at + 1) t))

unicode : (at : ℕ) (t : List ℕ) → Inner-escape (unicode_escape at t)
unfolding unicode_escape within
unicode at [] = refl
unicode at (b ∷ t) = both Inner-escape (eqb b 0x7B) (digits 6 0 (at + 1) t) refl

next-byte : (at : ℕ) (t : List ℕ) → Inner-escape (next_byte at t)
unfolding next_byte within
next-byte at t = both Inner-escape (eqb (get_or t 0 0) 0x5C && eqb (get_or t 1 0) 0x78) (two-digits (at + 2) (drop 2 t)) refl

with-byte : (a : EscapeAnswer) (go : ℕ → ℕ → EscapeAnswer) → Inner-escape a → ((b p : ℕ) → Inner-escape (go b p)) → Inner-escape (with_byte a go)
with-byte (Ascii b p) go h k = k b p
with-byte (Utf8 c p) go h k = tt
with-byte (Refused r) go h k = h

more-bytes : (left : ℕ) (bs : List ℕ) (at : ℕ) (t : List ℕ) → Inner-escape (more_bytes left bs at t)
unfolding more_bytes within
more-bytes zero bs at t = refl
more-bytes (suc left) bs at t =
    with-byte (next_byte at t) _ (next-byte at t)
    (λ b p. both Inner-escape (eqb (char_len (bs ++ b ∷ [])) 0) (more-bytes left (bs ++ b ∷ []) p (drop 4 t)) tt)

hex-by : (m : Mode) (t : List ℕ) (b p : ℕ) → Inner-escape (hex_by m t b p)
unfolding within
hex-by Str t b p = both Inner-escape (ltb b 0x80) tt (more-bytes 3 (b ∷ []) p t)
hex-by Char t b p = both Inner-escape (ltb b 0x80) tt refl
hex-by Bytes t b p = tt

pub escape_inner : (m : Mode) (s : List ℕ) → Inner-escape (escape_of m s)
unfolding escape_of hex_escape within
escape_inner m [] = refl
escape_inner m (b ∷ t) =
    both Inner-escape (ltb (simple_of b) 256) tt
    (both Inner-escape (eqb b 0x78) (with-byte (two_digits 1 t) (hex_by m (drop 2 t)) (two-digits 1 t) (hex-by m (drop 2 t)))
    (both Inner-escape (eqb b 0x75) (unicode 1 t) refl))

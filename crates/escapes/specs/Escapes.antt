-- Escapes (document 01, module 3): "`\u{}` takes 1 to 6 hex digits, no surrogate, nothing above U+10FFFF. In a string `\x` takes up to four in a row until
-- they form one UTF-8 character; in a char only one; in byte literals and byte strings any byte." An escape is read over the part of the text from behind
-- its `\`, and its length and places are counted from there. Below, t is what is left of the part, and `at` its place. CR 1: 13 has a reason, one of eight.
use Rattle.std.specs.Prelude.{ℕ, zero, suc, ◌+◌, ◌*◌, List, [], ◌∷◌, ◌++◌, Bool, false, cond, ◌&&◌, Option, Some, None, get_or, drop, eqb, ltb}
use Rattle.text.specs.Refusals.{eof, invalid_escape}
use Rattle.text.specs.declared.reason.EscapeReason.TheVariants.{DigitNotHex, UnknownLetter, NotByteEscaped, MissingOpenBrace}
use Rattle.text.specs.declared.reason.EscapeReason.TheVariants.{NoDigits, NoClosingBrace, NotACharacter}
unfoldable pub use Rattle.hexes.specs.Hex.{hex_of}
use Rattle.text.specs.Utf8.{char_len, code_of, scalar}
use Rattle.escapes.specs.declared.answers.Mode.{Mode}
use Rattle.escapes.specs.declared.answers.Mode.TheVariants.{Str, Char, Bytes}
use Rattle.escapes.specs.declared.answers.EscapeAnswer.{EscapeAnswer}
use Rattle.escapes.specs.declared.answers.EscapeAnswer.TheVariants.{Ascii, Utf8, Refused}

-- ---- hex digits: a character is taken, then judged

-- The second of two digits, where the first comes to h.
unfoldable pub second_digit : ℕ → ℕ → List ℕ → EscapeAnswer
second_digit h at [] = Refused (eof at)
second_digit h at (b ∷ t) =
    cond (eqb (hex_of b) 16) (Refused (invalid_escape DigitNotHex (at + char_len (b ∷ t)))) (Ascii (h * 16 + hex_of b) (at + 1))

-- Two digits: a byte.
unfoldable pub two_digits : ℕ → List ℕ → EscapeAnswer
two_digits at [] = Refused (eof at)
two_digits at (b ∷ t) =
    cond (eqb (hex_of b) 16) (Refused (invalid_escape DigitNotHex (at + char_len (b ∷ t)))) (second_digit (hex_of b) (at + 1) t)

-- ---- `\u{}`

-- Behind the digits, which come to v: no digits are refused at once, then a `}` has to stand here, then the value has to be a scalar value.
unfoldable pub close_of : Bool → ℕ → ℕ → List ℕ → EscapeAnswer
close_of empty v at [] = cond empty (Refused (invalid_escape NoDigits at)) (Refused (invalid_escape NoClosingBrace at))
close_of empty v at (b ∷ t) =
    cond empty (Refused (invalid_escape NoDigits at))
    (cond (eqb b 0x7D) (cond (scalar v) (Utf8 v (at + 1)) (Refused (invalid_escape NotACharacter (at + 1))))
    (Refused (invalid_escape NoClosingBrace at)))

-- The digits: at most `left` of the six may still come, and those before come to v.
unfoldable pub digits_of : ℕ → ℕ → ℕ → List ℕ → EscapeAnswer
digits_of zero v at t = close_of false v at t
digits_of (suc left) v at [] = Refused (eof at)
digits_of (suc left) v at (b ∷ t) =
    cond (eqb b 0x7D) (close_of (eqb (suc left) 6) v at (b ∷ t))
    (cond (eqb (hex_of b) 16) (Refused (invalid_escape DigitNotHex (at + char_len (b ∷ t)))) (digits_of left (v * 16 + hex_of b) (at + 1) t))

-- From behind the `u`.
unfoldable pub unicode_escape : ℕ → List ℕ → EscapeAnswer
unicode_escape at [] = Refused (invalid_escape MissingOpenBrace at)
unicode_escape at (b ∷ t) = cond (eqb b 0x7B) (digits_of 6 0 (at + 1) t) (Refused (invalid_escape MissingOpenBrace at))

-- ---- `\x`

-- One more `\x` with its digits; 13 where none stands here.
unfoldable pub next_byte : ℕ → List ℕ → EscapeAnswer
next_byte at t =
    cond (eqb (get_or t 0 0) 0x5C && eqb (get_or t 1 0) 0x78) (two_digits (at + 2) (drop 2 t)) (Refused (invalid_escape NotByteEscaped at))

-- What follows a byte that was read; any other answer stays as it is.
abbrev pub with_byte : EscapeAnswer → (ℕ → ℕ → EscapeAnswer) → EscapeAnswer
with_byte (Ascii b p) go = go b p
with_byte (Utf8 c p) go = Utf8 c p
with_byte (Refused r) go = Refused r

-- Up to `left` more `\x` behind the bytes bs, until they form one character.
unfoldable pub more_bytes : ℕ → List ℕ → ℕ → List ℕ → EscapeAnswer
more_bytes zero bs at t = Refused (invalid_escape NotByteEscaped at)
more_bytes (suc left) bs at t =
    with_byte (next_byte at t)
    (λ b p. cond (eqb (char_len (bs ++ b ∷ [])) 0) (more_bytes left (bs ++ b ∷ []) p (drop 4 t)) (Utf8 (code_of (bs ++ b ∷ [])) p))

-- What the first byte of a `\x` comes to, by where the escape stands; t is the part from behind its digits.
abbrev pub hex_by : Mode → List ℕ → ℕ → ℕ → EscapeAnswer
hex_by Str t b p = cond (ltb b 0x80) (Utf8 b p) (more_bytes 3 (b ∷ []) p t)
hex_by Char t b p = cond (ltb b 0x80) (Utf8 b p) (Refused (invalid_escape NotByteEscaped p))
hex_by Bytes t b p = Ascii b p

-- From behind the `x`.
unfoldable pub hex_escape : Mode → ℕ → List ℕ → EscapeAnswer
hex_escape m at t = with_byte (two_digits at t) (hex_by m (drop 2 t))

-- ---- an escape

-- `\'` `\"` `\\` `\n` `\r` `\t` `\0`; 256 for any other.
unfoldable pub simple_of : ℕ → ℕ
simple_of b =
    cond (eqb b 0x27) 0x27
    (cond (eqb b 0x22) 0x22
    (cond (eqb b 0x5C) 0x5C
    (cond (eqb b 0x6E) 0x0A
    (cond (eqb b 0x72) 0x0D
    (cond (eqb b 0x74) 0x09
    (cond (eqb b 0x30) 0x00 256))))))

-- A letter with the byte that it stands for, or another.
abbrev pub simple_answer : ℕ → Option ℕ
simple_answer b = cond (ltb (simple_of b) 256) (Some (simple_of b)) None

-- The escape at the front of a part.
unfoldable pub escape_of : Mode → List ℕ → EscapeAnswer
escape_of m [] = Refused (eof 0)
escape_of m (b ∷ t) =
    cond (ltb (simple_of b) 256) (Ascii (simple_of b) 1)
    (cond (eqb b 0x78) (hex_escape m 1 t)
    (cond (eqb b 0x75) (unicode_escape 1 t) (Refused (invalid_escape UnknownLetter (char_len (b ∷ t))))))

-- Worked texts, from behind the `\`: each of the seven reasons for which the reader of escapes refuses is given by some text (`each-given`), and the eighth by
-- none (`eighth-not`): it is the reader of byte literals that gives it. Each text is computed. Assumes nothing.
use Prim.Native.Nat.{ℕ}
use mathlib.Core.List.{List, [], ◌∷◌}
use mathlib.Core.Path.{◌≡◌, refl}
use Rattle.escapes.specs.Escapes.{close_of, digits_of, escape_of, hex_escape, hex_of, more_bytes, next_byte, second_digit, simple_of, two_digits, unicode_escape}
use Rattle.escapes.specs.declared.answers.EscapeAnswer.TheVariants.{Refused}
use Rattle.escapes.specs.declared.answers.Mode.{Mode}
use Rattle.escapes.specs.declared.answers.Mode.TheVariants.{Bytes, Char, Str}
use Rattle.escaped.proofs.Reasons.{escape_13}
use Rattle.escaped.specs.Wrong.{Wrong}
use Rattle.text.specs.Classes.{within}
use Rattle.text.specs.Refusals.{eof, invalid_escape}
use Rattle.text.specs.Utf8.{char_len, scalar, width_of}
use Rattle.text.specs.declared.reason.EscapeReason.{EscapeReason}
use Rattle.text.specs.declared.reason.EscapeReason.TheVariants.{DigitNotHex, MissingOpenBrace, NoClosingBrace, NoDigits, NotACharacter, NotByteEscaped}
use Rattle.text.specs.declared.reason.EscapeReason.TheVariants.{UnicodeInByteLiteral, UnknownLetter}

-- ---- one text for each reason

-- `"\xg"`
digit_not_hex : escape_of Str (0x78 ∷ 0x67 ∷ 0x22 ∷ []) ≡ Refused (invalid_escape DigitNotHex 2)
unfolding escape_of simple_of hex_escape two_digits hex_of within char_len width_of
digit_not_hex = refl

-- `"\q"`
unknown_letter : escape_of Str (0x71 ∷ 0x22 ∷ []) ≡ Refused (invalid_escape UnknownLetter 1)
unfolding escape_of simple_of char_len width_of
unknown_letter = refl

-- `"\xC3"`
not_byte_escaped : escape_of Str (0x78 ∷ 0x43 ∷ 0x33 ∷ 0x22 ∷ []) ≡ Refused (invalid_escape NotByteEscaped 3)
unfolding escape_of simple_of hex_escape two_digits second_digit more_bytes next_byte hex_of within
not_byte_escaped = refl

-- `"\u41"`
missing_open_brace : escape_of Str (0x75 ∷ 0x34 ∷ 0x31 ∷ 0x22 ∷ []) ≡ Refused (invalid_escape MissingOpenBrace 1)
unfolding escape_of simple_of unicode_escape
missing_open_brace = refl

-- `"\u{}"`
no_digits : escape_of Str (0x75 ∷ 0x7B ∷ 0x7D ∷ 0x22 ∷ []) ≡ Refused (invalid_escape NoDigits 2)
unfolding escape_of simple_of unicode_escape digits_of close_of
no_digits = refl

-- `"\u{1234567}"`
no_closing_brace : escape_of Str (0x75 ∷ 0x7B ∷ 0x31 ∷ 0x32 ∷ 0x33 ∷ 0x34 ∷ 0x35 ∷ 0x36 ∷ 0x37 ∷ 0x7D ∷ 0x22 ∷ []) ≡ Refused (invalid_escape NoClosingBrace 8)
unfolding escape_of simple_of unicode_escape digits_of close_of hex_of within
no_closing_brace = refl

-- `"\u{D800}"`
not_a_character : escape_of Str (0x75 ∷ 0x7B ∷ 0x44 ∷ 0x38 ∷ 0x30 ∷ 0x30 ∷ 0x7D ∷ 0x22 ∷ []) ≡ Refused (invalid_escape NotACharacter 7)
unfolding escape_of simple_of unicode_escape digits_of close_of hex_of within scalar
not_a_character = refl

-- so each is given, but for Unicode in a byte literal
pub each_given : (why : EscapeReason) → (why ≡ UnicodeInByteLiteral → ⊥) → (m : Mode) × (s : List ℕ) × (p : ℕ) × Wrong m s why p
each_given DigitNotHex n = (Str, _, 2, (escape_13 Str _ DigitNotHex 2).0 digit_not_hex)
each_given UnknownLetter n = (Str, _, 1, (escape_13 Str _ UnknownLetter 1).0 unknown_letter)
each_given NotByteEscaped n = (Str, _, 3, (escape_13 Str _ NotByteEscaped 3).0 not_byte_escaped)
each_given MissingOpenBrace n = (Str, _, 1, (escape_13 Str _ MissingOpenBrace 1).0 missing_open_brace)
each_given NoDigits n = (Str, _, 2, (escape_13 Str _ NoDigits 2).0 no_digits)
each_given NoClosingBrace n = (Str, _, 8, (escape_13 Str _ NoClosingBrace 8).0 no_closing_brace)
each_given NotACharacter n = (Str, _, 7, (escape_13 Str _ NotACharacter 7).0 not_a_character)
each_given UnicodeInByteLiteral n = absurd (n refl)

-- which is not
pub eighth_not : {m : Mode} {s : List ℕ} {p : ℕ} → Wrong m s UnicodeInByteLiteral p → ⊥
eighth_not = elim [ ]

-- ---- corners

-- `'\xC3\xA9'`: a char takes one byte only
high_in_a_char : escape_of Char (0x78 ∷ 0x43 ∷ 0x33 ∷ 0x5C ∷ 0x78 ∷ 0x41 ∷ 0x39 ∷ 0x27 ∷ []) ≡ Refused (invalid_escape NotByteEscaped 3)
unfolding escape_of simple_of hex_escape two_digits second_digit hex_of within
high_in_a_char = refl

-- `"\xC3\x9é"`: a digit of the second byte; the place is behind the whole character
second_byte : escape_of Str (0x78 ∷ 0x43 ∷ 0x33 ∷ 0x5C ∷ 0x78 ∷ 0x39 ∷ 0xC3 ∷ 0xA9 ∷ 0x22 ∷ []) ≡ Refused (invalid_escape DigitNotHex 8)
unfolding escape_of simple_of hex_escape two_digits second_digit more_bytes next_byte hex_of within char_len width_of
second_byte = refl

-- `"\x80\x80\x80\x80"`: four bytes that are no character
four_bytes : escape_of Str (0x78 ∷ 0x38 ∷ 0x30 ∷ 0x5C ∷ 0x78 ∷ 0x38 ∷ 0x30 ∷ 0x5C ∷ 0x78 ∷ 0x38 ∷ 0x30 ∷ 0x5C ∷ 0x78 ∷ 0x38 ∷ 0x30 ∷ 0x22 ∷ [])
    ≡ Refused (invalid_escape NotByteEscaped 15)
unfolding escape_of simple_of hex_escape two_digits second_digit more_bytes next_byte hex_of within char_len width_of
four_bytes = refl

-- `b"\x4`: the text ends
ends_in_a_byte : escape_of Bytes (0x78 ∷ 0x34 ∷ []) ≡ Refused (eof 2)
unfolding escape_of simple_of hex_escape two_digits second_digit hex_of within
ends_in_a_byte = refl

-- `"\u{41`: here too
ends_in_braces : escape_of Str (0x75 ∷ 0x7B ∷ 0x34 ∷ 0x31 ∷ []) ≡ Refused (eof 4)
unfolding escape_of simple_of unicode_escape digits_of hex_of within
ends_in_braces = refl

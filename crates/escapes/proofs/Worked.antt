-- Worked texts of document 01, from behind the `\`. Each is computed.
use mathlib.Core.List.{[], ◌∷◌}
use mathlib.Core.Path.{◌≡◌, refl}
use Rattle.escapes.specs.Escapes.{close_of, digits_of, escape_of, hex_escape, hex_of, more_bytes, next_byte, second_digit, simple_of, two_digits, unicode_escape}
use Rattle.escapes.specs.declared.answers.EscapeAnswer.TheVariants.{Refused, Utf8}
use Rattle.escapes.specs.declared.answers.Mode.TheVariants.{Char, Str}
use Rattle.text.specs.Classes.{within}
use Rattle.text.specs.Refusals.{invalid_escape}
use Rattle.text.specs.declared.reason.EscapeReason.TheVariants.{NoDigits, NotByteEscaped, UnknownLetter}
use Rattle.text.specs.Utf8.{char_len, code_of, code_of4, width_of}

-- `"\xC3\xA9"`
two_bytes : escape_of Str (0x78 ∷ 0x43 ∷ 0x33 ∷ 0x5C ∷ 0x78 ∷ 0x41 ∷ 0x39 ∷ 0x22 ∷ []) ≡ Utf8 0xE9 7
unfolding escape_of hex_escape two_digits second_digit next_byte more_bytes unicode_escape hex_of within simple_of char_len width_of code_of code_of4
two_bytes = refl

-- `'\xC3'`: 13 at 5, no byte-escaped character
char_byte : escape_of Char (0x78 ∷ 0x43 ∷ 0x33 ∷ 0x27 ∷ []) ≡ Refused (invalid_escape NotByteEscaped 3)
unfolding escape_of hex_escape two_digits second_digit unicode_escape hex_of within simple_of
char_byte = refl

-- `"\q"`: 13 at 3, unknown letter
unknown : escape_of Str (0x71 ∷ 0x22 ∷ []) ≡ Refused (invalid_escape UnknownLetter 1)
unfolding escape_of hex_escape two_digits unicode_escape hex_of within simple_of char_len width_of
unknown = refl

-- `"\u{}"`: 13 at 4, no digits
no_digits : escape_of Str (0x75 ∷ 0x7B ∷ 0x7D ∷ 0x22 ∷ []) ≡ Refused (invalid_escape NoDigits 2)
unfolding escape_of hex_escape two_digits unicode_escape digits_of close_of hex_of within simple_of char_len width_of
no_digits = refl

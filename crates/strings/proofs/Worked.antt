-- Worked texts of document 01 and of the crate's odd corners. Each is computed.
use Rattle.std.proofs.Common.{Ok, Err}
use mathlib.Core.Bool.{false, true}
use mathlib.Core.List.{[], ◌∷◌}
use mathlib.Core.Path.{◌≡◌, refl}
use Rattle.escapes.specs.Escapes.{close_of, digits_of, escape_of, hex_escape, hex_of, more_bytes, next_byte, second_digit, simple_of, two_digits, unicode_escape}
use Rattle.strings.specs.Chars.{byte_ends, byte_of, char_ends, char_of}
use Rattle.strings.specs.Pieces.{behind_backslash, body_from, body_of, decoded_of, line_end, piece_of, plain, unquoted}
use Rattle.strings.specs.Quoted.{literal, measured, quoted_of}
use Rattle.strings.specs.Raw.{raw_contents, raw_end, raw_of}
use Rattle.strings.specs.Strings.{byte_string_decoded, byte_string_of, string_decoded, string_of}
use Rattle.text.specs.Classes.{continuation_blank, within}
use Rattle.text.specs.Refusals.{eof, expected_byte_literal, expected_byte_string, expected_char, expected_string, expected_string_end, invalid_escape}
use Rattle.text.specs.declared.reason.EscapeReason.TheVariants.{NoClosingBrace, NoDigits, NotACharacter, NotByteEscaped, UnicodeInByteLiteral, UnknownLetter}
use Rattle.text.specs.Runs.{run}
use Rattle.text.specs.Utf8.{behind_four, behind_three, char_len, code_of, code_of4, encode, scalar, second_byte, width_of}

-- `"\xC3\xA9"` is a string of two bytes, escaped.
two_bytes : string_of (0x22 ∷ 0x5C ∷ 0x78 ∷ 0x43 ∷ 0x33 ∷ 0x5C ∷ 0x78 ∷ 0x41 ∷ 0x39 ∷ 0x22 ∷ []) ≡ Ok (literal 10 1 9 2 true)
unfolding string_of byte_string_of quoted_of raw_of measured body_of body_from piece_of behind_backslash line_end plain unquoted raw_end run continuation_blank escape_of hex_escape two_digits second_digit next_byte more_bytes unicode_escape digits_of close_of hex_of simple_of within char_len width_of behind_three behind_four second_byte code_of code_of4 scalar encode
two_bytes = refl

-- `"\xC3\xA9"` decodes to C3 A9.
two_bytes_decoded : string_decoded (0x22 ∷ 0x5C ∷ 0x78 ∷ 0x43 ∷ 0x33 ∷ 0x5C ∷ 0x78 ∷ 0x41 ∷ 0x39 ∷ 0x22 ∷ []) ≡ 0xC3 ∷ 0xA9 ∷ []
unfolding string_decoded byte_string_decoded raw_contents decoded_of body_of body_from piece_of behind_backslash line_end plain raw_end run continuation_blank encode escape_of hex_escape two_digits second_digit next_byte more_bytes unicode_escape digits_of close_of hex_of simple_of within char_len width_of behind_three behind_four second_byte code_of code_of4 scalar
two_bytes_decoded = refl

-- `'\xC3'`: 13 at 5.
char_byte : char_of (0x27 ∷ 0x5C ∷ 0x78 ∷ 0x43 ∷ 0x33 ∷ 0x27 ∷ []) ≡ Err (invalid_escape NotByteEscaped 5)
unfolding char_of char_ends byte_of byte_ends escape_of hex_escape two_digits second_digit next_byte more_bytes unicode_escape digits_of close_of hex_of simple_of within char_len width_of behind_three behind_four second_byte code_of code_of4 scalar
char_byte = refl

-- `"\q`: 17 at 1, since the closing quote is searched for before any escape is judged.
unclosed_first : string_of (0x22 ∷ 0x5C ∷ 0x71 ∷ []) ≡ Err (expected_string_end 1)
unfolding string_of byte_string_of quoted_of raw_of measured body_of body_from piece_of behind_backslash line_end plain unquoted raw_end run continuation_blank escape_of hex_escape two_digits second_digit next_byte more_bytes unicode_escape digits_of close_of hex_of simple_of within char_len width_of behind_three behind_four second_byte code_of code_of4 scalar
unclosed_first = refl

-- `"\q"`: 13 at 3.
unknown_escape : string_of (0x22 ∷ 0x5C ∷ 0x71 ∷ 0x22 ∷ []) ≡ Err (invalid_escape UnknownLetter 3)
unfolding string_of byte_string_of quoted_of raw_of measured body_of body_from piece_of behind_backslash line_end plain unquoted raw_end run continuation_blank escape_of hex_escape two_digits second_digit next_byte more_bytes unicode_escape digits_of close_of hex_of simple_of within char_len width_of behind_three behind_four second_byte code_of code_of4 scalar
unknown_escape = refl

-- `"\u{}"`: 13 at 4.
no_digits : string_of (0x22 ∷ 0x5C ∷ 0x75 ∷ 0x7B ∷ 0x7D ∷ 0x22 ∷ []) ≡ Err (invalid_escape NoDigits 4)
unfolding string_of byte_string_of quoted_of raw_of measured body_of body_from piece_of behind_backslash line_end plain unquoted raw_end run continuation_blank escape_of hex_escape two_digits second_digit next_byte more_bytes unicode_escape digits_of close_of hex_of simple_of within char_len width_of behind_three behind_four second_byte code_of code_of4 scalar
no_digits = refl

-- `'''` is char 39.
quote_char : char_of (0x27 ∷ 0x27 ∷ 0x27 ∷ []) ≡ Ok (3, 39)
unfolding char_of char_ends byte_of byte_ends escape_of hex_escape two_digits second_digit next_byte more_bytes unicode_escape digits_of close_of hex_of simple_of within char_len width_of behind_three behind_four second_byte code_of code_of4 scalar
quote_char = refl

-- `""` is the part 1 to 1.
empty : string_of (0x22 ∷ 0x22 ∷ []) ≡ Ok (literal 2 1 1 0 false)
unfolding string_of byte_string_of quoted_of raw_of measured body_of body_from piece_of behind_backslash line_end plain unquoted raw_end run continuation_blank escape_of hex_escape two_digits second_digit next_byte more_bytes unicode_escape digits_of close_of hex_of simple_of within char_len width_of behind_three behind_four second_byte code_of code_of4 scalar
empty = refl

-- `"\é"`: 13 at 4, behind the character.
wide_escape : string_of (0x22 ∷ 0x5C ∷ 0xC3 ∷ 0xA9 ∷ 0x22 ∷ []) ≡ Err (invalid_escape UnknownLetter 4)
unfolding string_of byte_string_of quoted_of raw_of measured body_of body_from piece_of behind_backslash line_end plain unquoted raw_end run continuation_blank escape_of hex_escape two_digits second_digit next_byte more_bytes unicode_escape digits_of close_of hex_of simple_of within char_len width_of behind_three behind_four second_byte code_of code_of4 scalar
wide_escape = refl

-- `"\u{0000041}"`: 13 at 10.
seventh_digit : string_of (0x22 ∷ 0x5C ∷ 0x75 ∷ 0x7B ∷ 0x30 ∷ 0x30 ∷ 0x30 ∷ 0x30 ∷ 0x30 ∷ 0x34 ∷ 0x31 ∷ 0x7D ∷ 0x22 ∷ []) ≡ Err (invalid_escape NoClosingBrace 10)
unfolding string_of byte_string_of quoted_of raw_of measured body_of body_from piece_of behind_backslash line_end plain unquoted raw_end run continuation_blank escape_of hex_escape two_digits second_digit next_byte more_bytes unicode_escape digits_of close_of hex_of simple_of within char_len width_of behind_three behind_four second_byte code_of code_of4 scalar
seventh_digit = refl

-- `"\u{D800}"`: 13 at 9.
surrogate : string_of (0x22 ∷ 0x5C ∷ 0x75 ∷ 0x7B ∷ 0x44 ∷ 0x38 ∷ 0x30 ∷ 0x30 ∷ 0x7D ∷ 0x22 ∷ []) ≡ Err (invalid_escape NotACharacter 9)
unfolding string_of byte_string_of quoted_of raw_of measured body_of body_from piece_of behind_backslash line_end plain unquoted raw_end run continuation_blank escape_of hex_escape two_digits second_digit next_byte more_bytes unicode_escape digits_of close_of hex_of simple_of within char_len width_of behind_three behind_four second_byte code_of code_of4 scalar
surrogate = refl

-- `"\xC3\x41"`: 13 at 9.
second_byte_ascii : string_of (0x22 ∷ 0x5C ∷ 0x78 ∷ 0x43 ∷ 0x33 ∷ 0x5C ∷ 0x78 ∷ 0x34 ∷ 0x31 ∷ 0x22 ∷ []) ≡ Err (invalid_escape NotByteEscaped 9)
unfolding string_of byte_string_of quoted_of raw_of measured body_of body_from piece_of behind_backslash line_end plain unquoted raw_end run continuation_blank escape_of hex_escape two_digits second_digit next_byte more_bytes unicode_escape digits_of close_of hex_of simple_of within char_len width_of behind_three behind_four second_byte code_of code_of4 scalar
second_byte_ascii = refl

-- `"a\nb\"c`: 17 at 7, behind the last escape.
late_end : string_of (0x22 ∷ 0x61 ∷ 0x5C ∷ 0x6E ∷ 0x62 ∷ 0x5C ∷ 0x22 ∷ 0x63 ∷ []) ≡ Err (expected_string_end 7)
unfolding string_of byte_string_of quoted_of raw_of measured body_of body_from piece_of behind_backslash line_end plain unquoted raw_end run continuation_blank escape_of hex_escape two_digits second_digit next_byte more_bytes unicode_escape digits_of close_of hex_of simple_of within char_len width_of behind_three behind_four second_byte code_of code_of4 scalar
late_end = refl

-- `"\"\x4`: 6 at 6.
late_eof : string_of (0x22 ∷ 0x5C ∷ 0x22 ∷ 0x5C ∷ 0x78 ∷ 0x34 ∷ []) ≡ Err (eof 6)
unfolding string_of byte_string_of quoted_of raw_of measured body_of body_from piece_of behind_backslash line_end plain unquoted raw_end run continuation_blank escape_of hex_escape two_digits second_digit next_byte more_bytes unicode_escape digits_of close_of hex_of simple_of within char_len width_of behind_three behind_four second_byte code_of code_of4 scalar
late_eof = refl

-- `"a\`, CR, LF, tab, `b"` decodes to `ab`.
continued : string_decoded (0x22 ∷ 0x61 ∷ 0x5C ∷ 0x0D ∷ 0x0A ∷ 0x09 ∷ 0x62 ∷ 0x22 ∷ []) ≡ 0x61 ∷ 0x62 ∷ []
unfolding string_decoded byte_string_decoded raw_contents decoded_of body_of body_from piece_of behind_backslash line_end plain raw_end run continuation_blank encode escape_of hex_escape two_digits second_digit next_byte more_bytes unicode_escape digits_of close_of hex_of simple_of within char_len width_of behind_three behind_four second_byte code_of code_of4 scalar
continued = refl

-- `"\`, LF, VT, `"` decodes to VT.
continued_vt : string_decoded (0x22 ∷ 0x5C ∷ 0x0A ∷ 0x0B ∷ 0x22 ∷ []) ≡ 0x0B ∷ []
unfolding string_decoded byte_string_decoded raw_contents decoded_of body_of body_from piece_of behind_backslash line_end plain raw_end run continuation_blank encode escape_of hex_escape two_digits second_digit next_byte more_bytes unicode_escape digits_of close_of hex_of simple_of within char_len width_of behind_three behind_four second_byte code_of code_of4 scalar
continued_vt = refl

-- `"\`, CR, `a"`: 13 at 3.
lone_cr : string_of (0x22 ∷ 0x5C ∷ 0x0D ∷ 0x61 ∷ 0x22 ∷ []) ≡ Err (invalid_escape UnknownLetter 3)
unfolding string_of byte_string_of quoted_of raw_of measured body_of body_from piece_of behind_backslash line_end plain unquoted raw_end run continuation_blank escape_of hex_escape two_digits second_digit next_byte more_bytes unicode_escape digits_of close_of hex_of simple_of within char_len width_of behind_three behind_four second_byte code_of code_of4 scalar
lone_cr = refl

-- `r#"a"##` is a raw string of six bytes, and ends before the last hash.
raw : string_of (0x72 ∷ 0x23 ∷ 0x22 ∷ 0x61 ∷ 0x22 ∷ 0x23 ∷ 0x23 ∷ []) ≡ Ok (literal 6 3 4 1 false)
unfolding string_of byte_string_of quoted_of raw_of measured body_of body_from piece_of behind_backslash line_end plain unquoted raw_end run continuation_blank escape_of hex_escape two_digits second_digit next_byte more_bytes unicode_escape digits_of close_of hex_of simple_of within char_len width_of behind_three behind_four second_byte code_of code_of4 scalar
raw = refl

-- `r##"a"#`: 17 at 4.
raw_short : string_of (0x72 ∷ 0x23 ∷ 0x23 ∷ 0x22 ∷ 0x61 ∷ 0x22 ∷ 0x23 ∷ []) ≡ Err (expected_string_end 4)
unfolding string_of byte_string_of quoted_of raw_of measured body_of body_from piece_of behind_backslash line_end plain unquoted raw_end run continuation_blank escape_of hex_escape two_digits second_digit next_byte more_bytes unicode_escape digits_of close_of hex_of simple_of within char_len width_of behind_three behind_four second_byte code_of code_of4 scalar
raw_short = refl

-- `r##x`: 16 at 3.
raw_none : string_of (0x72 ∷ 0x23 ∷ 0x23 ∷ 0x78 ∷ []) ≡ Err (expected_string 3)
unfolding string_of byte_string_of quoted_of raw_of measured body_of body_from piece_of behind_backslash line_end plain unquoted raw_end run continuation_blank escape_of hex_escape two_digits second_digit next_byte more_bytes unicode_escape digits_of close_of hex_of simple_of within char_len width_of behind_three behind_four second_byte code_of code_of4 scalar
raw_none = refl

-- `b"\u{e9}"` decodes to C3 A9.
byte_point : byte_string_decoded (0x62 ∷ 0x22 ∷ 0x5C ∷ 0x75 ∷ 0x7B ∷ 0x65 ∷ 0x39 ∷ 0x7D ∷ 0x22 ∷ []) ≡ 0xC3 ∷ 0xA9 ∷ []
unfolding string_decoded byte_string_decoded raw_contents decoded_of body_of body_from piece_of behind_backslash line_end plain raw_end run continuation_blank encode escape_of hex_escape two_digits second_digit next_byte more_bytes unicode_escape digits_of close_of hex_of simple_of within char_len width_of behind_three behind_four second_byte code_of code_of4 scalar
byte_point = refl

-- `brx`: 18 at 2.
byte_none : byte_string_of (0x62 ∷ 0x72 ∷ 0x78 ∷ []) ≡ Err (expected_byte_string 2)
unfolding string_of byte_string_of quoted_of raw_of measured body_of body_from piece_of behind_backslash line_end plain unquoted raw_end run continuation_blank escape_of hex_escape two_digits second_digit next_byte more_bytes unicode_escape digits_of close_of hex_of simple_of within char_len width_of behind_three behind_four second_byte code_of code_of4 scalar
byte_none = refl

-- `''`: 14 at 2.
empty_char : char_of (0x27 ∷ 0x27 ∷ []) ≡ Err (expected_char 2)
unfolding char_of char_ends byte_of byte_ends escape_of hex_escape two_digits second_digit next_byte more_bytes unicode_escape digits_of close_of hex_of simple_of within char_len width_of behind_three behind_four second_byte code_of code_of4 scalar
empty_char = refl

-- `'`: 6 at 1.
char_ended : char_of (0x27 ∷ []) ≡ Err (eof 1)
unfolding char_of char_ends byte_of byte_ends escape_of hex_escape two_digits second_digit next_byte more_bytes unicode_escape digits_of close_of hex_of simple_of within char_len width_of behind_three behind_four second_byte code_of code_of4 scalar
char_ended = refl

-- `b'\xFF'` is 255.
byte-literal : byte_of (0x62 ∷ 0x27 ∷ 0x5C ∷ 0x78 ∷ 0x46 ∷ 0x46 ∷ 0x27 ∷ []) ≡ Ok (7, 255)
unfolding char_of char_ends byte_of byte_ends escape_of hex_escape two_digits second_digit next_byte more_bytes unicode_escape digits_of close_of hex_of simple_of within char_len width_of behind_three behind_four second_byte code_of code_of4 scalar
byte-literal = refl

-- `b'\u{41}'`: 13 at 8, behind its `}`.
byte_unicode : byte_of (0x62 ∷ 0x27 ∷ 0x5C ∷ 0x75 ∷ 0x7B ∷ 0x34 ∷ 0x31 ∷ 0x7D ∷ 0x27 ∷ []) ≡ Err (invalid_escape UnicodeInByteLiteral 8)
unfolding char_of char_ends byte_of byte_ends escape_of hex_escape two_digits second_digit next_byte more_bytes unicode_escape digits_of close_of hex_of simple_of within char_len width_of behind_three behind_four second_byte code_of code_of4 scalar
byte_unicode = refl

-- `b'é'`: 15 at 4.
byte_wide : byte_of (0x62 ∷ 0x27 ∷ 0xC3 ∷ 0xA9 ∷ 0x27 ∷ []) ≡ Err (expected_byte_literal 4)
unfolding char_of char_ends byte_of byte_ends escape_of hex_escape two_digits second_digit next_byte more_bytes unicode_escape digits_of close_of hex_of simple_of within char_len width_of behind_three behind_four second_byte code_of code_of4 scalar
byte_wide = refl

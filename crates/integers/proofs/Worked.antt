-- Texts of document 01 and of the crate's odd corners, with the crate's answers, computed of the definition. Assumes nothing.
use mathlib.Core.Bool.{true, false}
use mathlib.Core.List.{List, [], ◌∷◌}
use mathlib.Core.Path.{◌≡◌, refl}
use Rattle.text.specs.Classes.{within, digit, letter, hex_digit, int_char, ascii_next, ident_next}
use Rattle.text.specs.Ahead.{char_if, next_ahead}
use Rattle.text.specs.Utf8.{behind_four, behind_three, char_len, code_of, code_of4, second_byte, width_of}
use Rattle.xid.specs.Table.{table}
use Rattle.xid.specs.Xid.{in_rows, xid_continue}
use Rattle.text.specs.Runs.{run}
use Rattle.text.specs.Refusals.{refusal}
use Rattle.text.specs.Words.{starts_with}
use Rattle.digits.specs.Digits.{hex_of, turn_of, digits_from, run_of}
use Rattle.integers.specs.Words.{ident_of, first_of}
use Rattle.integers.specs.Width.{limit_at, first_fit, width_at, suffix_word, suffix_of}
use Rattle.integers.specs.Front.{sign_of, prefix_of, front_of}
use Rattle.integers.specs.Integer.{numeral_of, typed_of}
use Rattle.integers.specs.declared.width.Width.TheVariants.{I8, I64, U8, U16, U32, U64}
use Rattle.integers.specs.declared.integer.Integer.{Integer}
use Rattle.integers.specs.declared.integer.Integer.TheVariants as integer

-- As u8 unless another width is named:
-- `255`, `256`, `99f`, `25f`, `-0`, `-128` i8, `-129` i8, `127` i8, `128` i8, ` 5`, `1.5`, `5i8x`, `a`, `_1`, ``, `256u16`, `300i8`, `0xu8`, `+u8`,
-- `-i8` i8, `u8`, `0x_u8`, `0b2u8`, `-_1`, `256au8`, `25au8`, `-1u8`, `1u8x`, `1u8_`, `1i128`, `0xff`, `0b1111_1111`, `0o400`,
-- `18446744073709551615` u64, `18446744073709551616` u64, `-9223372036854775808` i64, `-9223372036854775809` i64, `9223372036854775807` i64,
-- `99999999999999999999a` u16, `5é`, `5u8é`, `256u8é`, `300ai8é`, `0xu8é`, `0x_u8é`, `0b2u8é`, `5u8⟨85⟩`, `5u8⟨2028⟩`, `5u8⟨2010⟩`, `0X1`, `+`, `-`,
-- `0x`, `12 ` u32.
abbrev answers : List Integer
answers =
    typed_of U8 (50 ∷ 53 ∷ 53 ∷ [])
    ∷ typed_of U8 (50 ∷ 53 ∷ 54 ∷ [])
    ∷ typed_of U8 (57 ∷ 57 ∷ 102 ∷ [])
    ∷ typed_of U8 (50 ∷ 53 ∷ 102 ∷ [])
    ∷ typed_of U8 (45 ∷ 48 ∷ [])
    ∷ typed_of I8 (45 ∷ 49 ∷ 50 ∷ 56 ∷ [])
    ∷ typed_of I8 (45 ∷ 49 ∷ 50 ∷ 57 ∷ [])
    ∷ typed_of I8 (49 ∷ 50 ∷ 55 ∷ [])
    ∷ typed_of I8 (49 ∷ 50 ∷ 56 ∷ [])
    ∷ typed_of U8 (32 ∷ 53 ∷ [])
    ∷ typed_of U8 (49 ∷ 46 ∷ 53 ∷ [])
    ∷ typed_of U8 (53 ∷ 105 ∷ 56 ∷ 120 ∷ [])
    ∷ typed_of U8 (97 ∷ [])
    ∷ typed_of U8 (95 ∷ 49 ∷ [])
    ∷ typed_of U8 []
    ∷ typed_of U8 (50 ∷ 53 ∷ 54 ∷ 117 ∷ 49 ∷ 54 ∷ [])
    ∷ typed_of U8 (51 ∷ 48 ∷ 48 ∷ 105 ∷ 56 ∷ [])
    ∷ typed_of U8 (48 ∷ 120 ∷ 117 ∷ 56 ∷ [])
    ∷ typed_of U8 (43 ∷ 117 ∷ 56 ∷ [])
    ∷ typed_of I8 (45 ∷ 105 ∷ 56 ∷ [])
    ∷ typed_of U8 (117 ∷ 56 ∷ [])
    ∷ typed_of U8 (48 ∷ 120 ∷ 95 ∷ 117 ∷ 56 ∷ [])
    ∷ typed_of U8 (48 ∷ 98 ∷ 50 ∷ 117 ∷ 56 ∷ [])
    ∷ typed_of U8 (45 ∷ 95 ∷ 49 ∷ [])
    ∷ typed_of U8 (50 ∷ 53 ∷ 54 ∷ 97 ∷ 117 ∷ 56 ∷ [])
    ∷ typed_of U8 (50 ∷ 53 ∷ 97 ∷ 117 ∷ 56 ∷ [])
    ∷ typed_of U8 (45 ∷ 49 ∷ 117 ∷ 56 ∷ [])
    ∷ typed_of U8 (49 ∷ 117 ∷ 56 ∷ 120 ∷ [])
    ∷ typed_of U8 (49 ∷ 117 ∷ 56 ∷ 95 ∷ [])
    ∷ typed_of U8 (49 ∷ 105 ∷ 49 ∷ 50 ∷ 56 ∷ [])
    ∷ typed_of U8 (48 ∷ 120 ∷ 102 ∷ 102 ∷ [])
    ∷ typed_of U8 (48 ∷ 98 ∷ 49 ∷ 49 ∷ 49 ∷ 49 ∷ 95 ∷ 49 ∷ 49 ∷ 49 ∷ 49 ∷ [])
    ∷ typed_of U8 (48 ∷ 111 ∷ 52 ∷ 48 ∷ 48 ∷ [])
    ∷ typed_of U64 (49 ∷ 56 ∷ 52 ∷ 52 ∷ 54 ∷ 55 ∷ 52 ∷ 52 ∷ 48 ∷ 55 ∷ 51 ∷ 55 ∷ 48 ∷ 57 ∷ 53 ∷ 53 ∷ 49 ∷ 54 ∷ 49 ∷ 53 ∷ [])
    ∷ typed_of U64 (49 ∷ 56 ∷ 52 ∷ 52 ∷ 54 ∷ 55 ∷ 52 ∷ 52 ∷ 48 ∷ 55 ∷ 51 ∷ 55 ∷ 48 ∷ 57 ∷ 53 ∷ 53 ∷ 49 ∷ 54 ∷ 49 ∷ 54 ∷ [])
    ∷ typed_of I64 (45 ∷ 57 ∷ 50 ∷ 50 ∷ 51 ∷ 51 ∷ 55 ∷ 50 ∷ 48 ∷ 51 ∷ 54 ∷ 56 ∷ 53 ∷ 52 ∷ 55 ∷ 55 ∷ 53 ∷ 56 ∷ 48 ∷ 56 ∷ [])
    ∷ typed_of I64 (45 ∷ 57 ∷ 50 ∷ 50 ∷ 51 ∷ 51 ∷ 55 ∷ 50 ∷ 48 ∷ 51 ∷ 54 ∷ 56 ∷ 53 ∷ 52 ∷ 55 ∷ 55 ∷ 53 ∷ 56 ∷ 48 ∷ 57 ∷ [])
    ∷ typed_of I64 (57 ∷ 50 ∷ 50 ∷ 51 ∷ 51 ∷ 55 ∷ 50 ∷ 48 ∷ 51 ∷ 54 ∷ 56 ∷ 53 ∷ 52 ∷ 55 ∷ 55 ∷ 53 ∷ 56 ∷ 48 ∷ 55 ∷ [])
    ∷ typed_of U16 (57 ∷ 57 ∷ 57 ∷ 57 ∷ 57 ∷ 57 ∷ 57 ∷ 57 ∷ 57 ∷ 57 ∷ 57 ∷ 57 ∷ 57 ∷ 57 ∷ 57 ∷ 57 ∷ 57 ∷ 57 ∷ 57 ∷ 57 ∷ 97 ∷ [])
    ∷ typed_of U8 (53 ∷ 195 ∷ 169 ∷ [])
    ∷ typed_of U8 (53 ∷ 117 ∷ 56 ∷ 195 ∷ 169 ∷ [])
    ∷ typed_of U8 (50 ∷ 53 ∷ 54 ∷ 117 ∷ 56 ∷ 195 ∷ 169 ∷ [])
    ∷ typed_of U8 (51 ∷ 48 ∷ 48 ∷ 97 ∷ 105 ∷ 56 ∷ 195 ∷ 169 ∷ [])
    ∷ typed_of U8 (48 ∷ 120 ∷ 117 ∷ 56 ∷ 195 ∷ 169 ∷ [])
    ∷ typed_of U8 (48 ∷ 120 ∷ 95 ∷ 117 ∷ 56 ∷ 195 ∷ 169 ∷ [])
    ∷ typed_of U8 (48 ∷ 98 ∷ 50 ∷ 117 ∷ 56 ∷ 195 ∷ 169 ∷ [])
    ∷ typed_of U8 (53 ∷ 117 ∷ 56 ∷ 194 ∷ 133 ∷ [])
    ∷ typed_of U8 (53 ∷ 117 ∷ 56 ∷ 226 ∷ 128 ∷ 168 ∷ [])
    ∷ typed_of U8 (53 ∷ 117 ∷ 56 ∷ 226 ∷ 128 ∷ 144 ∷ [])
    ∷ typed_of U8 (48 ∷ 88 ∷ 49 ∷ [])
    ∷ typed_of U8 (43 ∷ [])
    ∷ typed_of U8 (45 ∷ [])
    ∷ typed_of U8 (48 ∷ 120 ∷ [])
    ∷ typed_of U32 (49 ∷ 50 ∷ 32 ∷ [])
    ∷ []

pub worked : answers ≡
    integer.Read (record { minus = false; magnitude = 255 }) 3
    ∷ integer.Refused (refusal 10 3)
    ∷ integer.Refused (refusal 10 3)
    ∷ integer.Refused (refusal 9 2)
    ∷ integer.Read (record { minus = false; magnitude = 0 }) 2
    ∷ integer.Read (record { minus = true; magnitude = 128 }) 4
    ∷ integer.Refused (refusal 10 4)
    ∷ integer.Read (record { minus = false; magnitude = 127 }) 3
    ∷ integer.Refused (refusal 10 3)
    ∷ integer.Refused (refusal 7 0)
    ∷ integer.Read (record { minus = false; magnitude = 1 }) 1
    ∷ integer.Read (record { minus = false; magnitude = 5 }) 1
    ∷ integer.Refused (refusal 9 0)
    ∷ integer.Refused (refusal 8 0)
    ∷ integer.Refused (refusal 6 0)
    ∷ integer.OtherSuffix
    ∷ integer.Refused (refusal 10 5)
    ∷ integer.Refused (refusal 7 4)
    ∷ integer.Refused (refusal 7 3)
    ∷ integer.Refused (refusal 7 3)
    ∷ integer.Refused (refusal 7 2)
    ∷ integer.Refused (refusal 8 2)
    ∷ integer.Refused (refusal 9 2)
    ∷ integer.Refused (refusal 8 1)
    ∷ integer.Refused (refusal 10 6)
    ∷ integer.Refused (refusal 9 2)
    ∷ integer.Refused (refusal 10 4)
    ∷ integer.Read (record { minus = false; magnitude = 1 }) 1
    ∷ integer.Read (record { minus = false; magnitude = 1 }) 1
    ∷ integer.Read (record { minus = false; magnitude = 1 }) 1
    ∷ integer.Read (record { minus = false; magnitude = 255 }) 4
    ∷ integer.Read (record { minus = false; magnitude = 255 }) 11
    ∷ integer.Refused (refusal 10 5)
    ∷ integer.Read (record { minus = false; magnitude = 18446744073709551615 }) 20
    ∷ integer.Refused (refusal 10 20)
    ∷ integer.Read (record { minus = true; magnitude = 9223372036854775808 }) 20
    ∷ integer.Refused (refusal 10 20)
    ∷ integer.Read (record { minus = false; magnitude = 9223372036854775807 }) 19
    ∷ integer.Refused (refusal 10 21)
    ∷ integer.Read (record { minus = false; magnitude = 5 }) 1
    ∷ integer.Read (record { minus = false; magnitude = 5 }) 1
    ∷ integer.Refused (refusal 10 3)
    ∷ integer.Refused (refusal 10 4)
    ∷ integer.Refused (refusal 7 2)
    ∷ integer.Refused (refusal 8 2)
    ∷ integer.Refused (refusal 9 2)
    ∷ integer.Read (record { minus = false; magnitude = 5 }) 3
    ∷ integer.Read (record { minus = false; magnitude = 5 }) 3
    ∷ integer.Read (record { minus = false; magnitude = 5 }) 3
    ∷ integer.Read (record { minus = false; magnitude = 0 }) 1
    ∷ integer.Refused (refusal 7 1)
    ∷ integer.Refused (refusal 7 1)
    ∷ integer.Refused (refusal 7 2)
    ∷ integer.Read (record { minus = false; magnitude = 12 }) 2
    ∷ []
unfolding within digit letter hex_digit int_char ascii_next ident_next next_ahead char_if char_len code_of code_of4 width_of behind_three behind_four second_byte xid_continue in_rows table run hex_of turn_of digits_from run_of starts_with ident_of first_of limit_at first_fit width_at suffix_word suffix_of sign_of prefix_of front_of numeral_of typed_of
worked = refl

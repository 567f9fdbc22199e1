-- Texts of document 01 and of the crate's odd corners, with the crate's answers for the number in front, computed of the definition. Assumes nothing.
use mathlib.Core.List.{List, [], ◌∷◌}
use mathlib.Core.Path.{◌≡◌, refl}
use Rattle.text.specs.Classes.{within, digit, letter, hex_digit, int_char, float_char, ascii_next, ident_next}
use Rattle.text.specs.Ahead.{char_if, next_ahead}
use Rattle.text.specs.Utf8.{behind_four, behind_three, char_len, code_of, code_of4, second_byte, width_of}
use Rattle.xid.specs.Table.{table}
use Rattle.xid.specs.Xid.{in_rows, xid_continue}
use Rattle.text.specs.Runs.{run, run2}
use Rattle.text.specs.Refusals.{refusal}
use Rattle.text.specs.Words.{starts_with}
use Rattle.digits.specs.Digits.{hex_of, turn_of, digits_from, run_of}
use Rattle.integers.specs.Words.{ident_of, first_of}
use Rattle.integers.specs.Width.{limit_at, first_fit, width_at, suffix_word, suffix_of}
use Rattle.integers.specs.Front.{sign_of, prefix_of, front_of}
use Rattle.integers.specs.Integer.{numeral_of, any_of}
use Rattle.integers.specs.declared.width.Width.TheVariants.{I8, I16, U8, U16}
use Rattle.floats.specs.Classes.{float_goes}
use Rattle.floats.specs.Grammar.{step_of, accepts}
use Rattle.floats.specs.Judged.{well_to, stripped, float_judged}
use Rattle.floats.specs.Float.{run_at, float_of}
use Rattle.numbers.specs.Numbers.{float_ahead, number_of}
use Rattle.numbers.specs.declared.Number.{Number}
use Rattle.numbers.specs.declared.Number.TheVariants.{Int, Float, Refused}

-- `300a`, `300ai8`, `1e5`, `0x`, `7`, `300`, `-129`, `1e`, `1e5e5`, `1ef32`, `-e5`, `1e+`, `1.5e`, `1e5.`, `1e.5`, `1-2`, `5-a`, `--1`, `+-1`,
-- `1.5.5`, `0xe+1`, `0x1.5`, `0b1.5`, `1u8-1`, `..`, `1..2`, `1.5..2`, `-..`, `1e..`, `1a`, `25f`, `1d`, `1e5u8`, `18446744073709551616`,
-- `0x10000000000000000`, `-9223372036854775809`, `1_.5`, `1.5_`, `1e_5`, `1e+_5`, `1.e_5`, `1._5`, `+_1.5`, `-◌.5`, `1.5e_`, `12_f32`, `1.f32`,
-- `1f3`, `1f32x`, `1.5f16`, `0x1f32`, `0b1f32`, `.f32`, `1e400`, `-infx`, `-infinity`, `+inf`, `-inff32`, `+NaNf64`, `256au8`, `25au8`, `30au16`,
-- `1i128`, `-0`, `-0u8`, `+5`, `.5`, `5.`, `.`, `+`, `1.5f32`, `-1.5e-7f64`, `1.5f32é`, `.f32é`, `1f32é`, `1.5fé`, `-infé`, `+NaNf32é`, `1u8é`, `+é`,
-- `0xé`, `.é`, `1u8⟨85⟩`, `-inf⟨85⟩`.
abbrev answers : List Number
answers =
    number_of (51 ∷ 48 ∷ 48 ∷ 97 ∷ [])
    ∷ number_of (51 ∷ 48 ∷ 48 ∷ 97 ∷ 105 ∷ 56 ∷ [])
    ∷ number_of (49 ∷ 101 ∷ 53 ∷ [])
    ∷ number_of (48 ∷ 120 ∷ [])
    ∷ number_of (55 ∷ [])
    ∷ number_of (51 ∷ 48 ∷ 48 ∷ [])
    ∷ number_of (45 ∷ 49 ∷ 50 ∷ 57 ∷ [])
    ∷ number_of (49 ∷ 101 ∷ [])
    ∷ number_of (49 ∷ 101 ∷ 53 ∷ 101 ∷ 53 ∷ [])
    ∷ number_of (49 ∷ 101 ∷ 102 ∷ 51 ∷ 50 ∷ [])
    ∷ number_of (45 ∷ 101 ∷ 53 ∷ [])
    ∷ number_of (49 ∷ 101 ∷ 43 ∷ [])
    ∷ number_of (49 ∷ 46 ∷ 53 ∷ 101 ∷ [])
    ∷ number_of (49 ∷ 101 ∷ 53 ∷ 46 ∷ [])
    ∷ number_of (49 ∷ 101 ∷ 46 ∷ 53 ∷ [])
    ∷ number_of (49 ∷ 45 ∷ 50 ∷ [])
    ∷ number_of (53 ∷ 45 ∷ 97 ∷ [])
    ∷ number_of (45 ∷ 45 ∷ 49 ∷ [])
    ∷ number_of (43 ∷ 45 ∷ 49 ∷ [])
    ∷ number_of (49 ∷ 46 ∷ 53 ∷ 46 ∷ 53 ∷ [])
    ∷ number_of (48 ∷ 120 ∷ 101 ∷ 43 ∷ 49 ∷ [])
    ∷ number_of (48 ∷ 120 ∷ 49 ∷ 46 ∷ 53 ∷ [])
    ∷ number_of (48 ∷ 98 ∷ 49 ∷ 46 ∷ 53 ∷ [])
    ∷ number_of (49 ∷ 117 ∷ 56 ∷ 45 ∷ 49 ∷ [])
    ∷ number_of (46 ∷ 46 ∷ [])
    ∷ number_of (49 ∷ 46 ∷ 46 ∷ 50 ∷ [])
    ∷ number_of (49 ∷ 46 ∷ 53 ∷ 46 ∷ 46 ∷ 50 ∷ [])
    ∷ number_of (45 ∷ 46 ∷ 46 ∷ [])
    ∷ number_of (49 ∷ 101 ∷ 46 ∷ 46 ∷ [])
    ∷ number_of (49 ∷ 97 ∷ [])
    ∷ number_of (50 ∷ 53 ∷ 102 ∷ [])
    ∷ number_of (49 ∷ 100 ∷ [])
    ∷ number_of (49 ∷ 101 ∷ 53 ∷ 117 ∷ 56 ∷ [])
    ∷ number_of (49 ∷ 56 ∷ 52 ∷ 52 ∷ 54 ∷ 55 ∷ 52 ∷ 52 ∷ 48 ∷ 55 ∷ 51 ∷ 55 ∷ 48 ∷ 57 ∷ 53 ∷ 53 ∷ 49 ∷ 54 ∷ 49 ∷ 54 ∷ [])
    ∷ number_of (48 ∷ 120 ∷ 49 ∷ 48 ∷ 48 ∷ 48 ∷ 48 ∷ 48 ∷ 48 ∷ 48 ∷ 48 ∷ 48 ∷ 48 ∷ 48 ∷ 48 ∷ 48 ∷ 48 ∷ 48 ∷ 48 ∷ [])
    ∷ number_of (45 ∷ 57 ∷ 50 ∷ 50 ∷ 51 ∷ 51 ∷ 55 ∷ 50 ∷ 48 ∷ 51 ∷ 54 ∷ 56 ∷ 53 ∷ 52 ∷ 55 ∷ 55 ∷ 53 ∷ 56 ∷ 48 ∷ 57 ∷ [])
    ∷ number_of (49 ∷ 95 ∷ 46 ∷ 53 ∷ [])
    ∷ number_of (49 ∷ 46 ∷ 53 ∷ 95 ∷ [])
    ∷ number_of (49 ∷ 101 ∷ 95 ∷ 53 ∷ [])
    ∷ number_of (49 ∷ 101 ∷ 43 ∷ 95 ∷ 53 ∷ [])
    ∷ number_of (49 ∷ 46 ∷ 101 ∷ 95 ∷ 53 ∷ [])
    ∷ number_of (49 ∷ 46 ∷ 95 ∷ 53 ∷ [])
    ∷ number_of (43 ∷ 95 ∷ 49 ∷ 46 ∷ 53 ∷ [])
    ∷ number_of (45 ∷ 95 ∷ 46 ∷ 53 ∷ [])
    ∷ number_of (49 ∷ 46 ∷ 53 ∷ 101 ∷ 95 ∷ [])
    ∷ number_of (49 ∷ 50 ∷ 95 ∷ 102 ∷ 51 ∷ 50 ∷ [])
    ∷ number_of (49 ∷ 46 ∷ 102 ∷ 51 ∷ 50 ∷ [])
    ∷ number_of (49 ∷ 102 ∷ 51 ∷ [])
    ∷ number_of (49 ∷ 102 ∷ 51 ∷ 50 ∷ 120 ∷ [])
    ∷ number_of (49 ∷ 46 ∷ 53 ∷ 102 ∷ 49 ∷ 54 ∷ [])
    ∷ number_of (48 ∷ 120 ∷ 49 ∷ 102 ∷ 51 ∷ 50 ∷ [])
    ∷ number_of (48 ∷ 98 ∷ 49 ∷ 102 ∷ 51 ∷ 50 ∷ [])
    ∷ number_of (46 ∷ 102 ∷ 51 ∷ 50 ∷ [])
    ∷ number_of (49 ∷ 101 ∷ 52 ∷ 48 ∷ 48 ∷ [])
    ∷ number_of (45 ∷ 105 ∷ 110 ∷ 102 ∷ 120 ∷ [])
    ∷ number_of (45 ∷ 105 ∷ 110 ∷ 102 ∷ 105 ∷ 110 ∷ 105 ∷ 116 ∷ 121 ∷ [])
    ∷ number_of (43 ∷ 105 ∷ 110 ∷ 102 ∷ [])
    ∷ number_of (45 ∷ 105 ∷ 110 ∷ 102 ∷ 102 ∷ 51 ∷ 50 ∷ [])
    ∷ number_of (43 ∷ 78 ∷ 97 ∷ 78 ∷ 102 ∷ 54 ∷ 52 ∷ [])
    ∷ number_of (50 ∷ 53 ∷ 54 ∷ 97 ∷ 117 ∷ 56 ∷ [])
    ∷ number_of (50 ∷ 53 ∷ 97 ∷ 117 ∷ 56 ∷ [])
    ∷ number_of (51 ∷ 48 ∷ 97 ∷ 117 ∷ 49 ∷ 54 ∷ [])
    ∷ number_of (49 ∷ 105 ∷ 49 ∷ 50 ∷ 56 ∷ [])
    ∷ number_of (45 ∷ 48 ∷ [])
    ∷ number_of (45 ∷ 48 ∷ 117 ∷ 56 ∷ [])
    ∷ number_of (43 ∷ 53 ∷ [])
    ∷ number_of (46 ∷ 53 ∷ [])
    ∷ number_of (53 ∷ 46 ∷ [])
    ∷ number_of (46 ∷ [])
    ∷ number_of (43 ∷ [])
    ∷ number_of (49 ∷ 46 ∷ 53 ∷ 102 ∷ 51 ∷ 50 ∷ [])
    ∷ number_of (45 ∷ 49 ∷ 46 ∷ 53 ∷ 101 ∷ 45 ∷ 55 ∷ 102 ∷ 54 ∷ 52 ∷ [])
    ∷ number_of (49 ∷ 46 ∷ 53 ∷ 102 ∷ 51 ∷ 50 ∷ 195 ∷ 169 ∷ [])
    ∷ number_of (46 ∷ 102 ∷ 51 ∷ 50 ∷ 195 ∷ 169 ∷ [])
    ∷ number_of (49 ∷ 102 ∷ 51 ∷ 50 ∷ 195 ∷ 169 ∷ [])
    ∷ number_of (49 ∷ 46 ∷ 53 ∷ 102 ∷ 195 ∷ 169 ∷ [])
    ∷ number_of (45 ∷ 105 ∷ 110 ∷ 102 ∷ 195 ∷ 169 ∷ [])
    ∷ number_of (43 ∷ 78 ∷ 97 ∷ 78 ∷ 102 ∷ 51 ∷ 50 ∷ 195 ∷ 169 ∷ [])
    ∷ number_of (49 ∷ 117 ∷ 56 ∷ 195 ∷ 169 ∷ [])
    ∷ number_of (43 ∷ 195 ∷ 169 ∷ [])
    ∷ number_of (48 ∷ 120 ∷ 195 ∷ 169 ∷ [])
    ∷ number_of (46 ∷ 195 ∷ 169 ∷ [])
    ∷ number_of (49 ∷ 117 ∷ 56 ∷ 194 ∷ 133 ∷ [])
    ∷ number_of (45 ∷ 105 ∷ 110 ∷ 102 ∷ 194 ∷ 133 ∷ [])
    ∷ []

pub worked : answers ≡
    Float (record { len = 3; suffix = 0 })
    ∷ Refused (refusal 10 6)
    ∷ Float (record { len = 3; suffix = 0 })
    ∷ Refused (refusal 7 2)
    ∷ Int U8 1
    ∷ Int U16 3
    ∷ Int I16 4
    ∷ Refused (refusal 9 1)
    ∷ Refused (refusal 9 1)
    ∷ Refused (refusal 9 1)
    ∷ Refused (refusal 9 1)
    ∷ Refused (refusal 11 0)
    ∷ Refused (refusal 11 0)
    ∷ Refused (refusal 11 0)
    ∷ Refused (refusal 11 0)
    ∷ Refused (refusal 11 0)
    ∷ Refused (refusal 11 0)
    ∷ Refused (refusal 11 0)
    ∷ Refused (refusal 11 0)
    ∷ Refused (refusal 11 0)
    ∷ Int U8 3
    ∷ Int U8 3
    ∷ Int U8 3
    ∷ Int U8 3
    ∷ Refused (refusal 7 0)
    ∷ Int U8 1
    ∷ Float (record { len = 3; suffix = 0 })
    ∷ Refused (refusal 7 1)
    ∷ Refused (refusal 9 1)
    ∷ Float (record { len = 1; suffix = 0 })
    ∷ Float (record { len = 2; suffix = 0 })
    ∷ Float (record { len = 1; suffix = 0 })
    ∷ Float (record { len = 3; suffix = 0 })
    ∷ Float (record { len = 20; suffix = 0 })
    ∷ Refused (refusal 10 19)
    ∷ Float (record { len = 20; suffix = 0 })
    ∷ Float (record { len = 4; suffix = 0 })
    ∷ Float (record { len = 4; suffix = 0 })
    ∷ Float (record { len = 4; suffix = 0 })
    ∷ Float (record { len = 5; suffix = 0 })
    ∷ Float (record { len = 5; suffix = 0 })
    ∷ Refused (refusal 12 2)
    ∷ Refused (refusal 12 1)
    ∷ Refused (refusal 12 1)
    ∷ Refused (refusal 11 0)
    ∷ Float (record { len = 6; suffix = 32 })
    ∷ Float (record { len = 5; suffix = 32 })
    ∷ Float (record { len = 1; suffix = 0 })
    ∷ Float (record { len = 1; suffix = 0 })
    ∷ Float (record { len = 3; suffix = 0 })
    ∷ Int U16 6
    ∷ Refused (refusal 9 3)
    ∷ Refused (refusal 11 0)
    ∷ Float (record { len = 5; suffix = 0 })
    ∷ Refused (refusal 7 1)
    ∷ Refused (refusal 7 1)
    ∷ Float (record { len = 4; suffix = 0 })
    ∷ Float (record { len = 7; suffix = 32 })
    ∷ Float (record { len = 7; suffix = 64 })
    ∷ Refused (refusal 10 6)
    ∷ Float (record { len = 2; suffix = 0 })
    ∷ Float (record { len = 2; suffix = 0 })
    ∷ Int U8 1
    ∷ Int I8 2
    ∷ Int U8 4
    ∷ Int U8 2
    ∷ Float (record { len = 2; suffix = 0 })
    ∷ Float (record { len = 2; suffix = 0 })
    ∷ Refused (refusal 11 0)
    ∷ Refused (refusal 7 1)
    ∷ Float (record { len = 6; suffix = 32 })
    ∷ Float (record { len = 10; suffix = 64 })
    ∷ Float (record { len = 3; suffix = 0 })
    ∷ Refused (refusal 11 0)
    ∷ Float (record { len = 1; suffix = 0 })
    ∷ Float (record { len = 3; suffix = 0 })
    ∷ Refused (refusal 7 1)
    ∷ Refused (refusal 7 1)
    ∷ Int U8 1
    ∷ Refused (refusal 7 1)
    ∷ Refused (refusal 7 2)
    ∷ Refused (refusal 11 0)
    ∷ Int U8 3
    ∷ Float (record { len = 4; suffix = 0 })
    ∷ []
unfolding within digit letter hex_digit int_char float_char ascii_next ident_next next_ahead char_if char_len code_of code_of4 width_of behind_three behind_four second_byte xid_continue in_rows table run run2 hex_of turn_of digits_from run_of starts_with ident_of first_of limit_at first_fit width_at suffix_word suffix_of sign_of prefix_of front_of numeral_of any_of float_goes step_of accepts well_to stripped float_judged run_at float_of float_ahead number_of
worked = refl

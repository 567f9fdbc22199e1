-- Worked texts of the rule: at which byte a refusal is given, and that 4, 6 and 17 are not. Each is computed. Assumes nothing.
use Prim.Native.Nat.{ℕ, ◌+◌}
use mathlib.Core.Bool.{true, false}
use mathlib.Core.List.{List, [], ◌∷◌}
use mathlib.Core.Path.{◌≡◌, refl}
use lib.ListN.{take}
use Rattle.text.specs.Classes.{within, blank, blank1, blank2, blank3, blank_width, digit, letter, hex_digit, int_char, float_char, ident_first, ident_next, ident_raw, continuation_blank, ascii_first, ascii_next, ascii_raw}
use Rattle.text.specs.Ahead.{next_ahead}
use Rattle.floats.specs.Judged.{float_judged as judgedOf·floats, well_to, stripped}
use Rattle.text.specs.Runs.{run, run2, ascii_for}
use Rattle.text.specs.Utf8.{encode, second_byte, behind_three, behind_four, width_of, char_len, utf8_from, utf8_of, code_of4, code_of, scalar, encoded_len, encode_answer, encoded_into}
use Rattle.text.specs.Words.{starts_with}
use Rattle.comments.specs.Blocks.{mark_of, block_from, block_end}
use Rattle.comments.specs.Gaps.{behind_slash, comment_of, item_of as itemOf·comments, gap_from, gap_of}
use Rattle.attributes.specs.List.{item_of as itemOf·attributes, other_char, item_end, behind_name, list_from, list_of}
use Rattle.comments.specs.Lines.{line_from, line_end as lineEnd·comments}
use Rattle.strings.specs.Pieces.{line_end as lineEnd·strings, unquoted, plain, behind_backslash, piece_of, decoded_len, body_from, body_of, decoded_of}
use Rattle.escapes.specs.Escapes.{hex_of, second_digit, two_digits, close_of, digits_of, unicode_escape, next_byte, more_bytes, hex_escape, simple_of, escape_of}
use Rattle.reading.specs.Kept.{any_quiet}
use Rattle.names.specs.Characters.{char_if, chars_from, chars}
use Rattle.names.specs.Classify.{begins_float, suffixed, named, missing, word_of as wordOf·names}
use Rattle.attributes.specs.Words.{keyword_of as wordOf·attributes, by_word, keyword_at}
use Rattle.names.specs.Identifiers.{name_len, plain_of, raw_of as rawOf·names, skip_identifier_of, strict_of, identifier_of}
use Rattle.strings.specs.Raw.{raw_of as rawOf·strings, raw_end, raw_contents}
use Rattle.names.specs.Starts.{begins_string, begins_raw}
use Rattle.integers.specs.Words.{ident_of, first_of}
use Rattle.digits.specs.Digits.{turn_of, digits_from, run_of}
use Rattle.attributes.specs.Attributes.{string_value_from as valueFrom·attributes, enable_from, keyword_from, opened_of, attribute_of}
use Rattle.integers.specs.Front.{sign_of, prefix_of, front_of}
use Rattle.integers.specs.Integer.{numeral_of, typed_of, any_of}
use Rattle.integers.specs.Width.{width_at, limit_at, first_fit, suffix_word, suffix_of}
use Rattle.floats.specs.Classes.{float_goes}
use Rattle.floats.specs.Float.{run_at, float_of}
use Rattle.floats.specs.Grammar.{step_of as stepOf·floats, accepts}
use Rattle.numbers.specs.Numbers.{float_ahead, number_of}
use Rattle.strings.specs.Chars.{char_ends, char_of, byte_ends, byte_of}
use Rattle.strings.specs.Quoted.{measured, quoted_of}
use Rattle.strings.specs.Strings.{string_of, byte_string_of, string_decoded, byte_string_decoded}
use Rattle.attributes.specs.Close.{no_end, list_end, close_list, string_end, string_from}
use Rattle.attributes.specs.Extensions.{is_word, first_named, extension_of, added_to}
use Rattle.attributes.specs.Steps.{skip_from, consume_from, sign_at, sign_from}
use Rattle.tokens.specs.Ron.{ron_token}
use Rattle.tokens.specs.Shapes.{mark_kind, starts_number, behind_b, behind_r, shape_of}
use Rattle.tokens.specs.Token.{token_of}
use Rattle.xid.specs.Table.{table}
use Rattle.xid.specs.Xid.{in_rows, xid_continue, xid_start}
use Rattle.arriving.specs.Owing.{tells_end}
use Rattle.settled.specs.Bytes.{decides_byte, closes_byte, stops_byte}
use Rattle.settled.specs.Settled.{behind_slash as behindSlash·settled, stop_from, quoted_stays, starts_nothing, spoilt_for, ron_settles, ron_once}
use Rattle.settled.specs.Stood.{sign_here, sign_stood, item_stood, list_stood, end_stood, enable_stood, value_stood, attribute_stood}

-- the refusal is given with the byte at n, and not before
abbrev GivenAt : ℕ → List ℕ → Type 0
GivenAt n s = (ron_settles (take n s) ≡ false) × (ron_settles (take (n + 1) s) ≡ true)

-- `"\q"` at 3, `"\q, b"` at 6, `"\"\q!` at 5, `'ab'` at 3, `b'\u{41}'` at 8: with the byte that ends it, or a stop byte behind the place
abbrev Quoted : Type 0
Quoted =
    GivenAt 3 (0x22 ∷ 0x5c ∷ 0x71 ∷ 0x22 ∷ [])
    × GivenAt 6 (0x22 ∷ 0x5c ∷ 0x71 ∷ 0x2c ∷ 0x20 ∷ 0x62 ∷ 0x22 ∷ [])
    × GivenAt 5 (0x22 ∷ 0x5c ∷ 0x22 ∷ 0x5c ∷ 0x71 ∷ 0x21 ∷ [])
    × GivenAt 3 (0x27 ∷ 0x61 ∷ 0x62 ∷ 0x27 ∷ [])
    × GivenAt 8 (0x62 ∷ 0x27 ∷ 0x5c ∷ 0x75 ∷ 0x7b ∷ 0x34 ∷ 0x31 ∷ 0x7d ∷ 0x27 ∷ [])

-- `0xg,` at 3, `300ai8 ` at 6
abbrev Numbered : Type 0
Numbered =
    GivenAt 3 (0x30 ∷ 0x78 ∷ 0x67 ∷ 0x2c ∷ [])
    × GivenAt 6 (0x33 ∷ 0x30 ∷ 0x30 ∷ 0x61 ∷ 0x69 ∷ 0x38 ∷ 0x20 ∷ [])

-- `#![enable(foo)]` at 13, `#![ foo ` at 7, `#![enable(implicit_some]/x ` at 26
abbrev Attributed : Type 0
Attributed =
    GivenAt 13 (0x23 ∷ 0x21 ∷ 0x5b ∷ 0x65 ∷ 0x6e ∷ 0x61 ∷ 0x62 ∷ 0x6c ∷ 0x65 ∷ 0x28 ∷ 0x66 ∷ 0x6f ∷ 0x6f ∷ 0x29 ∷ 0x5d ∷ [])
    × GivenAt 7 (0x23 ∷ 0x21 ∷ 0x5b ∷ 0x20 ∷ 0x66 ∷ 0x6f ∷ 0x6f ∷ 0x20 ∷ [])
    × GivenAt 26 (0x23 ∷ 0x21 ∷ 0x5b ∷ 0x65 ∷ 0x6e ∷ 0x61 ∷ 0x62 ∷ 0x6c ∷ 0x65 ∷ 0x28 ∷ 0x69 ∷ 0x6d ∷ 0x70 ∷ 0x6c ∷ 0x69 ∷ 0x63 ∷ 0x69 ∷ 0x74 ∷ 0x5f ∷ 0x73 ∷ 0x6f ∷ 0x6d ∷ 0x65 ∷ 0x5d ∷ 0x2f ∷ 0x78 ∷ 0x20 ∷ [])

-- `*`, `\`, `€`, `/x` and `/` before `€`, with their character
abbrev At-once : Type 0
At-once =
    (ron_once (0x2a ∷ []) ≡ true)
    × (ron_once (0x5c ∷ []) ≡ true)
    × (ron_once (0xe2 ∷ 0x82 ∷ 0xac ∷ []) ≡ true)
    × (ron_once (0x2f ∷ 0x78 ∷ []) ≡ true)
    × (ron_once (0x2f ∷ 0xe2 ∷ 0x82 ∷ 0xac ∷ []) ≡ true)
    × GivenAt 2 (0xe2 ∷ 0x82 ∷ 0xac ∷ [])
    × GivenAt 3 (0x2f ∷ 0xe2 ∷ 0x82 ∷ 0xac ∷ 0x20 ∷ [])

-- `"a b`, `/*/*/`, `/`, `'`: 17, 4 and 6 are given by no byte
abbrev At-the-end : Type 0
At-the-end =
    (ron_settles (0x22 ∷ 0x61 ∷ 0x20 ∷ 0x62 ∷ []) ≡ false)
    × (ron_settles (0x2f ∷ 0x2a ∷ 0x2f ∷ 0x2a ∷ 0x2f ∷ []) ≡ false)
    × (ron_settles (0x2f ∷ []) ≡ false)
    × (ron_settles (0x27 ∷ []) ≡ false)

pub worked : Quoted × Numbered × Attributed × At-once × At-the-end
unfolding tells_end within blank blank1 blank2 blank3 blank_width digit letter hex_digit int_char float_char ident_first ident_next ident_raw continuation_blank ascii_first ascii_next ascii_raw next_ahead judgedOf·floats well_to stripped run run2 ascii_for encode second_byte behind_three behind_four width_of char_len utf8_from utf8_of code_of4 code_of scalar encoded_len encode_answer encoded_into starts_with mark_of block_from block_end behind_slash comment_of itemOf·comments gap_from gap_of itemOf·attributes other_char item_end behind_name list_from list_of line_from lineEnd·comments lineEnd·strings unquoted plain behind_backslash piece_of decoded_len body_from body_of decoded_of hex_of second_digit two_digits close_of digits_of unicode_escape next_byte more_bytes hex_escape simple_of escape_of any_quiet char_if chars_from chars begins_float suffixed named missing wordOf·names wordOf·attributes by_word keyword_at name_len plain_of rawOf·names skip_identifier_of strict_of identifier_of rawOf·strings raw_end raw_contents begins_string begins_raw ident_of first_of turn_of digits_from run_of valueFrom·attributes enable_from keyword_from opened_of attribute_of sign_of prefix_of front_of numeral_of typed_of any_of width_at limit_at first_fit suffix_word suffix_of float_goes run_at float_of stepOf·floats accepts float_ahead number_of char_ends char_of byte_ends byte_of measured quoted_of string_of byte_string_of string_decoded byte_string_decoded no_end list_end close_list string_end string_from is_word first_named extension_of added_to skip_from consume_from sign_at sign_from ron_token mark_kind starts_number behind_b behind_r shape_of token_of table in_rows xid_continue xid_start decides_byte closes_byte stops_byte stop_from quoted_stays starts_nothing spoilt_for ron_settles ron_once sign_stood item_stood list_stood end_stood enable_stood value_stood attribute_stood sign_here behindSlash·settled
worked = (((refl, refl), (refl, refl), (refl, refl), (refl, refl), (refl, refl)), ((refl, refl), (refl, refl)), ((refl, refl), (refl, refl), (refl, refl)), (refl, refl, refl, refl, refl, (refl, refl), (refl, refl)), (refl, refl, refl, refl))

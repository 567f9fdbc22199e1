-- Worked texts of document 01 and of the crate's odd corners. Each is computed.
use Rattle.std.proofs.Common.{Ok, Err}
use mathlib.Core.List.{[], ◌∷◌}
use mathlib.Core.Path.{◌≡◌, refl}
use Rattle.text.specs.Classes.{ascii_first, ascii_next, ascii_raw, blank1, blank2, blank3, blank_width, continuation_blank, digit, ident_first, ident_next, ident_raw, letter, within}
use Rattle.xid.specs.Table.{table}
use Rattle.xid.specs.Xid.{in_rows, xid_continue, xid_start}
use Rattle.text.specs.Refusals.{eof, expected_string_end, invalid_escape}
use Rattle.text.specs.declared.reason.EscapeReason.TheVariants.{UnknownLetter}
use Rattle.text.specs.Runs.{run}
use Rattle.text.specs.Utf8.{behind_four, behind_three, char_len, code_of, code_of4, scalar, second_byte, width_of}
use Rattle.text.specs.Words.{starts_with}
use Rattle.comments.specs.Blocks.{block_end, block_from, mark_of}
use Rattle.comments.specs.Gaps.{behind_slash, comment_of, gap_from, gap_of, item_of}
use Rattle.comments.specs.Lines.{line_end, line_from}
use Rattle.escapes.specs.Escapes.{close_of, digits_of, escape_of, hex_escape, hex_of, more_bytes, next_byte, second_digit, simple_of, two_digits, unicode_escape}
use Rattle.names.specs.Characters.{char_if, chars, chars_from}
use Rattle.names.specs.Identifiers.{name_len, plain_of, raw_of as nameRaw, skip_identifier_of}
use Rattle.names.specs.Starts.{begins_raw, begins_string}
use Rattle.strings.specs.Chars.{char_ends, char_of}
use Rattle.strings.specs.Pieces.{behind_backslash, body_from, body_of, line_end as continued, piece_of, plain, unquoted}
use Rattle.strings.specs.Quoted.{measured, quoted_of}
use Rattle.strings.specs.Raw.{raw_end, raw_of}
use Rattle.strings.specs.Strings.{byte_string_of, string_of}
use Rattle.structs.specs.Passes.{past_byte_string, past_char, past_gap, past_string}
use Rattle.structs.specs.Scan.{after_comma, marked_by, past_spurious, scan_from, scan_of, step_of}
use Rattle.structs.specs.Structs.{after_name, inside_brackets, decided, inside_newtype, parenthesized, struct_type_of, unless_empty}
use Rattle.structs.specs.declared.kinds.NewtypeMode.TheVariants.{InsideNewtype, NoParensMeanUnit}
use Rattle.structs.specs.declared.kinds.StructType.TheVariants as kind
use Rattle.structs.specs.declared.kinds.TupleMode.TheVariants.{DifferentiateNewtype, ImpreciseTupleOrNewtype}

-- `("a"/*,*/)`: NewtypeTuple, since the comma in the comment does not count.
pub comma_in_comment : struct_type_of (0x28 ∷ 0x22 ∷ 0x61 ∷ 0x22 ∷ 0x2F ∷ 0x2A ∷ 0x2C ∷ 0x2A ∷ 0x2F ∷ 0x29 ∷ []) NoParensMeanUnit DifferentiateNewtype ≡ Ok kind.NewtypeTuple
unfolding struct_type_of parenthesized inside_newtype unless_empty inside_brackets after_name decided scan_of scan_from step_of past_spurious marked_by after_comma past_gap past_char past_string past_byte_string gap_of gap_from item_of comment_of behind_slash line_end line_from block_end block_from mark_of blank_width blank1 blank2 blank3 within skip_identifier_of nameRaw plain_of name_len char_if chars chars_from ascii_first ascii_next ascii_raw ident_first ident_next ident_raw letter digit begins_string begins_raw starts_with char_of char_ends string_of byte_string_of quoted_of raw_of measured body_of body_from piece_of behind_backslash continued plain unquoted raw_end run continuation_blank escape_of hex_escape two_digits second_digit next_byte more_bytes unicode_escape digits_of close_of hex_of simple_of char_len width_of behind_three behind_four second_byte code_of code_of4 scalar
comma_in_comment = refl

-- `("a",1)`: NonNewtypeTuple.
pub two_values : struct_type_of (0x28 ∷ 0x22 ∷ 0x61 ∷ 0x22 ∷ 0x2C ∷ 0x31 ∷ 0x29 ∷ []) NoParensMeanUnit DifferentiateNewtype ≡ Ok kind.NonNewtypeTuple
unfolding struct_type_of parenthesized inside_newtype unless_empty inside_brackets after_name decided scan_of scan_from step_of past_spurious marked_by after_comma past_gap past_char past_string past_byte_string gap_of gap_from item_of comment_of behind_slash line_end line_from block_end block_from mark_of blank_width blank1 blank2 blank3 within skip_identifier_of nameRaw plain_of name_len char_if chars chars_from ascii_first ascii_next ascii_raw ident_first ident_next ident_raw letter digit begins_string begins_raw starts_with char_of char_ends string_of byte_string_of quoted_of raw_of measured body_of body_from piece_of behind_backslash continued plain unquoted raw_end run continuation_blank escape_of hex_escape two_digits second_digit next_byte more_bytes unicode_escape digits_of close_of hex_of simple_of char_len width_of behind_three behind_four second_byte code_of code_of4 scalar
two_values = refl

-- `(b'\xFF',')')`: NewtypeTuple, since a byte literal is not passed over: `','` is read as a char, and then `)` closes.
pub byte-literal : struct_type_of (0x28 ∷ 0x62 ∷ 0x27 ∷ 0x5C ∷ 0x78 ∷ 0x46 ∷ 0x46 ∷ 0x27 ∷ 0x2C ∷ 0x27 ∷ 0x29 ∷ 0x27 ∷ 0x29 ∷ []) NoParensMeanUnit DifferentiateNewtype ≡ Ok kind.NewtypeTuple
unfolding struct_type_of parenthesized inside_newtype unless_empty inside_brackets after_name decided scan_of scan_from step_of past_spurious marked_by after_comma past_gap past_char past_string past_byte_string gap_of gap_from item_of comment_of behind_slash line_end line_from block_end block_from mark_of blank_width blank1 blank2 blank3 within skip_identifier_of nameRaw plain_of name_len char_if chars chars_from ascii_first ascii_next ascii_raw ident_first ident_next ident_raw letter digit begins_string begins_raw starts_with char_of char_ends string_of byte_string_of quoted_of raw_of measured body_of body_from piece_of behind_backslash continued plain unquoted raw_end run continuation_blank escape_of hex_escape two_digits second_digit next_byte more_bytes unicode_escape digits_of close_of hex_of simple_of char_len width_of behind_three behind_four second_byte code_of code_of4 scalar
byte-literal = refl

-- `a`: Unit.
pub no_bracket : struct_type_of (0x61 ∷ []) NoParensMeanUnit DifferentiateNewtype ≡ Ok kind.Unit
unfolding struct_type_of parenthesized inside_newtype unless_empty inside_brackets after_name decided scan_of scan_from step_of past_spurious marked_by after_comma past_gap past_char past_string past_byte_string gap_of gap_from item_of comment_of behind_slash line_end line_from block_end block_from mark_of blank_width blank1 blank2 blank3 within skip_identifier_of nameRaw plain_of name_len char_if chars chars_from ascii_first ascii_next ascii_raw ident_first ident_next ident_raw letter digit begins_string begins_raw starts_with char_of char_ends string_of byte_string_of quoted_of raw_of measured body_of body_from piece_of behind_backslash continued plain unquoted raw_end run continuation_blank escape_of hex_escape two_digits second_digit next_byte more_bytes unicode_escape digits_of close_of hex_of simple_of char_len width_of behind_three behind_four second_byte code_of code_of4 scalar
no_bracket = refl

-- `()`: EmptyTuple.
pub empty : struct_type_of (0x28 ∷ 0x29 ∷ []) NoParensMeanUnit DifferentiateNewtype ≡ Ok kind.EmptyTuple
unfolding struct_type_of parenthesized inside_newtype unless_empty inside_brackets after_name decided scan_of scan_from step_of past_spurious marked_by after_comma past_gap past_char past_string past_byte_string gap_of gap_from item_of comment_of behind_slash line_end line_from block_end block_from mark_of blank_width blank1 blank2 blank3 within skip_identifier_of nameRaw plain_of name_len char_if chars chars_from ascii_first ascii_next ascii_raw ident_first ident_next ident_raw letter digit begins_string begins_raw starts_with char_of char_ends string_of byte_string_of quoted_of raw_of measured body_of body_from piece_of behind_backslash continued plain unquoted raw_end run continuation_blank escape_of hex_escape two_digits second_digit next_byte more_bytes unicode_escape digits_of close_of hex_of simple_of char_len width_of behind_three behind_four second_byte code_of code_of4 scalar
empty = refl

-- `(a:1)`: Named.
pub named : struct_type_of (0x28 ∷ 0x61 ∷ 0x3A ∷ 0x31 ∷ 0x29 ∷ []) NoParensMeanUnit DifferentiateNewtype ≡ Ok kind.Named
unfolding struct_type_of parenthesized inside_newtype unless_empty inside_brackets after_name decided scan_of scan_from step_of past_spurious marked_by after_comma past_gap past_char past_string past_byte_string gap_of gap_from item_of comment_of behind_slash line_end line_from block_end block_from mark_of blank_width blank1 blank2 blank3 within skip_identifier_of nameRaw plain_of name_len char_if chars chars_from ascii_first ascii_next ascii_raw ident_first ident_next ident_raw letter digit begins_string begins_raw starts_with char_of char_ends string_of byte_string_of quoted_of raw_of measured body_of body_from piece_of behind_backslash continued plain unquoted raw_end run continuation_blank escape_of hex_escape two_digits second_digit next_byte more_bytes unicode_escape digits_of close_of hex_of simple_of char_len width_of behind_three behind_four second_byte code_of code_of4 scalar
named = refl

-- `(a,)`: NewtypeTuple.
pub one_and_comma : struct_type_of (0x28 ∷ 0x61 ∷ 0x2C ∷ 0x29 ∷ []) NoParensMeanUnit DifferentiateNewtype ≡ Ok kind.NewtypeTuple
unfolding struct_type_of parenthesized inside_newtype unless_empty inside_brackets after_name decided scan_of scan_from step_of past_spurious marked_by after_comma past_gap past_char past_string past_byte_string gap_of gap_from item_of comment_of behind_slash line_end line_from block_end block_from mark_of blank_width blank1 blank2 blank3 within skip_identifier_of nameRaw plain_of name_len char_if chars chars_from ascii_first ascii_next ascii_raw ident_first ident_next ident_raw letter digit begins_string begins_raw starts_with char_of char_ends string_of byte_string_of quoted_of raw_of measured body_of body_from piece_of behind_backslash continued plain unquoted raw_end run continuation_blank escape_of hex_escape two_digits second_digit next_byte more_bytes unicode_escape digits_of close_of hex_of simple_of char_len width_of behind_three behind_four second_byte code_of code_of4 scalar
one_and_comma = refl

-- `(`: 6 at 1.
pub opened : struct_type_of (0x28 ∷ []) NoParensMeanUnit DifferentiateNewtype ≡ Err (eof 1)
unfolding struct_type_of parenthesized inside_newtype unless_empty inside_brackets after_name decided scan_of scan_from step_of past_spurious marked_by after_comma past_gap past_char past_string past_byte_string gap_of gap_from item_of comment_of behind_slash line_end line_from block_end block_from mark_of blank_width blank1 blank2 blank3 within skip_identifier_of nameRaw plain_of name_len char_if chars chars_from ascii_first ascii_next ascii_raw ident_first ident_next ident_raw letter digit begins_string begins_raw starts_with char_of char_ends string_of byte_string_of quoted_of raw_of measured body_of body_from piece_of behind_backslash continued plain unquoted raw_end run continuation_blank escape_of hex_escape two_digits second_digit next_byte more_bytes unicode_escape digits_of close_of hex_of simple_of char_len width_of behind_three behind_four second_byte code_of code_of4 scalar
opened = refl

-- `(` (imprecise): AnyTuple.
pub opened_imprecise : struct_type_of (0x28 ∷ []) NoParensMeanUnit ImpreciseTupleOrNewtype ≡ Ok kind.AnyTuple
unfolding struct_type_of parenthesized inside_newtype unless_empty inside_brackets after_name decided scan_of scan_from step_of past_spurious marked_by after_comma past_gap past_char past_string past_byte_string gap_of gap_from item_of comment_of behind_slash line_end line_from block_end block_from mark_of blank_width blank1 blank2 blank3 within skip_identifier_of nameRaw plain_of name_len char_if chars chars_from ascii_first ascii_next ascii_raw ident_first ident_next ident_raw letter digit begins_string begins_raw starts_with char_of char_ends string_of byte_string_of quoted_of raw_of measured body_of body_from piece_of behind_backslash continued plain unquoted raw_end run continuation_blank escape_of hex_escape two_digits second_digit next_byte more_bytes unicode_escape digits_of close_of hex_of simple_of char_len width_of behind_three behind_four second_byte code_of code_of4 scalar
opened_imprecise = refl

-- `(ar"\",1)`: 17 at 6, since the scan goes on behind the name, where `"` begins a string that is not closed.
pub behind-name : struct_type_of (0x28 ∷ 0x61 ∷ 0x72 ∷ 0x22 ∷ 0x5C ∷ 0x22 ∷ 0x2C ∷ 0x31 ∷ 0x29 ∷ []) NoParensMeanUnit DifferentiateNewtype ≡ Err (expected_string_end 6)
unfolding struct_type_of parenthesized inside_newtype unless_empty inside_brackets after_name decided scan_of scan_from step_of past_spurious marked_by after_comma past_gap past_char past_string past_byte_string gap_of gap_from item_of comment_of behind_slash line_end line_from block_end block_from mark_of blank_width blank1 blank2 blank3 within skip_identifier_of nameRaw plain_of name_len char_if chars chars_from ascii_first ascii_next ascii_raw ident_first ident_next ident_raw letter digit begins_string begins_raw starts_with char_of char_ends string_of byte_string_of quoted_of raw_of measured body_of body_from piece_of behind_backslash continued plain unquoted raw_end run continuation_blank escape_of hex_escape two_digits second_digit next_byte more_bytes unicode_escape digits_of close_of hex_of simple_of char_len width_of behind_three behind_four second_byte code_of code_of4 scalar
behind-name = refl

-- `(1ar"\",1)`: NonNewtypeTuple, since no name stands there, and `r"\"` is a raw string.
pub number_first : struct_type_of (0x28 ∷ 0x31 ∷ 0x61 ∷ 0x72 ∷ 0x22 ∷ 0x5C ∷ 0x22 ∷ 0x2C ∷ 0x31 ∷ 0x29 ∷ []) NoParensMeanUnit DifferentiateNewtype ≡ Ok kind.NonNewtypeTuple
unfolding struct_type_of parenthesized inside_newtype unless_empty inside_brackets after_name decided scan_of scan_from step_of past_spurious marked_by after_comma past_gap past_char past_string past_byte_string gap_of gap_from item_of comment_of behind_slash line_end line_from block_end block_from mark_of blank_width blank1 blank2 blank3 within skip_identifier_of nameRaw plain_of name_len char_if chars chars_from ascii_first ascii_next ascii_raw ident_first ident_next ident_raw letter digit begins_string begins_raw starts_with char_of char_ends string_of byte_string_of quoted_of raw_of measured body_of body_from piece_of behind_backslash continued plain unquoted raw_end run continuation_blank escape_of hex_escape two_digits second_digit next_byte more_bytes unicode_escape digits_of close_of hex_of simple_of char_len width_of behind_three behind_four second_byte code_of code_of4 scalar
number_first = refl

-- `(],1)`: NewtypeTuple, since brackets are not matched by kind.
pub other_bracket : struct_type_of (0x28 ∷ 0x5D ∷ 0x2C ∷ 0x31 ∷ 0x29 ∷ []) NoParensMeanUnit DifferentiateNewtype ≡ Ok kind.NewtypeTuple
unfolding struct_type_of parenthesized inside_newtype unless_empty inside_brackets after_name decided scan_of scan_from step_of past_spurious marked_by after_comma past_gap past_char past_string past_byte_string gap_of gap_from item_of comment_of behind_slash line_end line_from block_end block_from mark_of blank_width blank1 blank2 blank3 within skip_identifier_of nameRaw plain_of name_len char_if chars chars_from ascii_first ascii_next ascii_raw ident_first ident_next ident_raw letter digit begins_string begins_raw starts_with char_of char_ends string_of byte_string_of quoted_of raw_of measured body_of body_from piece_of behind_backslash continued plain unquoted raw_end run continuation_blank escape_of hex_escape two_digits second_digit next_byte more_bytes unicode_escape digits_of close_of hex_of simple_of char_len width_of behind_three behind_four second_byte code_of code_of4 scalar
other_bracket = refl

-- `(1,`: NonNewtypeTuple.
pub comma_last : struct_type_of (0x28 ∷ 0x31 ∷ 0x2C ∷ []) NoParensMeanUnit DifferentiateNewtype ≡ Ok kind.NonNewtypeTuple
unfolding struct_type_of parenthesized inside_newtype unless_empty inside_brackets after_name decided scan_of scan_from step_of past_spurious marked_by after_comma past_gap past_char past_string past_byte_string gap_of gap_from item_of comment_of behind_slash line_end line_from block_end block_from mark_of blank_width blank1 blank2 blank3 within skip_identifier_of nameRaw plain_of name_len char_if chars chars_from ascii_first ascii_next ascii_raw ident_first ident_next ident_raw letter digit begins_string begins_raw starts_with char_of char_ends string_of byte_string_of quoted_of raw_of measured body_of body_from piece_of behind_backslash continued plain unquoted raw_end run continuation_blank escape_of hex_escape two_digits second_digit next_byte more_bytes unicode_escape digits_of close_of hex_of simple_of char_len width_of behind_three behind_four second_byte code_of code_of4 scalar
comma_last = refl

-- `('a`: 6 at 3, since a char that fails is none.
pub open_char : struct_type_of (0x28 ∷ 0x27 ∷ 0x61 ∷ []) NoParensMeanUnit DifferentiateNewtype ≡ Err (eof 3)
unfolding struct_type_of parenthesized inside_newtype unless_empty inside_brackets after_name decided scan_of scan_from step_of past_spurious marked_by after_comma past_gap past_char past_string past_byte_string gap_of gap_from item_of comment_of behind_slash line_end line_from block_end block_from mark_of blank_width blank1 blank2 blank3 within skip_identifier_of nameRaw plain_of name_len char_if chars chars_from ascii_first ascii_next ascii_raw ident_first ident_next ident_raw letter digit begins_string begins_raw starts_with char_of char_ends string_of byte_string_of quoted_of raw_of measured body_of body_from piece_of behind_backslash continued plain unquoted raw_end run continuation_blank escape_of hex_escape two_digits second_digit next_byte more_bytes unicode_escape digits_of close_of hex_of simple_of char_len width_of behind_three behind_four second_byte code_of code_of4 scalar
open_char = refl

-- `(')`: NewtypeTuple.
pub quote : struct_type_of (0x28 ∷ 0x27 ∷ 0x29 ∷ []) NoParensMeanUnit DifferentiateNewtype ≡ Ok kind.NewtypeTuple
unfolding struct_type_of parenthesized inside_newtype unless_empty inside_brackets after_name decided scan_of scan_from step_of past_spurious marked_by after_comma past_gap past_char past_string past_byte_string gap_of gap_from item_of comment_of behind_slash line_end line_from block_end block_from mark_of blank_width blank1 blank2 blank3 within skip_identifier_of nameRaw plain_of name_len char_if chars chars_from ascii_first ascii_next ascii_raw ident_first ident_next ident_raw letter digit begins_string begins_raw starts_with char_of char_ends string_of byte_string_of quoted_of raw_of measured body_of body_from piece_of behind_backslash continued plain unquoted raw_end run continuation_blank escape_of hex_escape two_digits second_digit next_byte more_bytes unicode_escape digits_of close_of hex_of simple_of char_len width_of behind_three behind_four second_byte code_of code_of4 scalar
quote = refl

-- `("\q")`: 13 at 4, since a malformed string ends the scan.
pub bad_escape : struct_type_of (0x28 ∷ 0x22 ∷ 0x5C ∷ 0x71 ∷ 0x22 ∷ 0x29 ∷ []) NoParensMeanUnit DifferentiateNewtype ≡ Err (invalid_escape UnknownLetter 4)
unfolding struct_type_of parenthesized inside_newtype unless_empty inside_brackets after_name decided scan_of scan_from step_of past_spurious marked_by after_comma past_gap past_char past_string past_byte_string gap_of gap_from item_of comment_of behind_slash line_end line_from block_end block_from mark_of blank_width blank1 blank2 blank3 within skip_identifier_of nameRaw plain_of name_len char_if chars chars_from ascii_first ascii_next ascii_raw ident_first ident_next ident_raw letter digit begins_string begins_raw starts_with char_of char_ends string_of byte_string_of quoted_of raw_of measured body_of body_from piece_of behind_backslash continued plain unquoted raw_end run continuation_blank escape_of hex_escape two_digits second_digit next_byte more_bytes unicode_escape digits_of close_of hex_of simple_of char_len width_of behind_three behind_four second_byte code_of code_of4 scalar
bad_escape = refl

-- `(a)` (InsideNewtype): 6 at 3, since the bracket counts as part of the contents.
pub inside : struct_type_of (0x28 ∷ 0x61 ∷ 0x29 ∷ []) InsideNewtype DifferentiateNewtype ≡ Err (eof 3)
unfolding struct_type_of parenthesized inside_newtype unless_empty inside_brackets after_name decided scan_of scan_from step_of past_spurious marked_by after_comma past_gap past_char past_string past_byte_string gap_of gap_from item_of comment_of behind_slash line_end line_from block_end block_from mark_of blank_width blank1 blank2 blank3 within skip_identifier_of nameRaw plain_of name_len char_if chars chars_from ascii_first ascii_next ascii_raw ident_first ident_next ident_raw letter digit begins_string begins_raw starts_with char_of char_ends string_of byte_string_of quoted_of raw_of measured body_of body_from piece_of behind_backslash continued plain unquoted raw_end run continuation_blank escape_of hex_escape two_digits second_digit next_byte more_bytes unicode_escape digits_of close_of hex_of simple_of char_len width_of behind_three behind_four second_byte code_of code_of4 scalar
inside = refl

-- `)` (InsideNewtype): NewtypeTuple.
pub inside_closed : struct_type_of (0x29 ∷ []) InsideNewtype DifferentiateNewtype ≡ Ok kind.NewtypeTuple
unfolding struct_type_of parenthesized inside_newtype unless_empty inside_brackets after_name decided scan_of scan_from step_of past_spurious marked_by after_comma past_gap past_char past_string past_byte_string gap_of gap_from item_of comment_of behind_slash line_end line_from block_end block_from mark_of blank_width blank1 blank2 blank3 within skip_identifier_of nameRaw plain_of name_len char_if chars chars_from ascii_first ascii_next ascii_raw ident_first ident_next ident_raw letter digit begins_string begins_raw starts_with char_of char_ends string_of byte_string_of quoted_of raw_of measured body_of body_from piece_of behind_backslash continued plain unquoted raw_end run continuation_blank escape_of hex_escape two_digits second_digit next_byte more_bytes unicode_escape digits_of close_of hex_of simple_of char_len width_of behind_three behind_four second_byte code_of code_of4 scalar
inside_closed = refl

-- Empty text (InsideNewtype): 6 at 0.
pub inside_nothing : struct_type_of ([]) InsideNewtype DifferentiateNewtype ≡ Err (eof 0)
unfolding struct_type_of parenthesized inside_newtype unless_empty inside_brackets after_name decided scan_of scan_from step_of past_spurious marked_by after_comma past_gap past_char past_string past_byte_string gap_of gap_from item_of comment_of behind_slash line_end line_from block_end block_from mark_of blank_width blank1 blank2 blank3 within skip_identifier_of nameRaw plain_of name_len char_if chars chars_from ascii_first ascii_next ascii_raw ident_first ident_next ident_raw letter digit begins_string begins_raw starts_with char_of char_ends string_of byte_string_of quoted_of raw_of measured body_of body_from piece_of behind_backslash continued plain unquoted raw_end run continuation_blank escape_of hex_escape two_digits second_digit next_byte more_bytes unicode_escape digits_of close_of hex_of simple_of char_len width_of behind_three behind_four second_byte code_of code_of4 scalar
inside_nothing = refl

-- `(é`: 6 at 3, behind the name.
pub asked : struct_type_of (0x28 ∷ 0xC3 ∷ 0xA9 ∷ []) NoParensMeanUnit DifferentiateNewtype ≡ Err (eof 3)
unfolding struct_type_of parenthesized inside_newtype unless_empty inside_brackets after_name decided scan_of scan_from step_of past_spurious marked_by after_comma past_gap past_char past_string past_byte_string gap_of gap_from item_of comment_of behind_slash line_end line_from block_end block_from mark_of blank_width blank1 blank2 blank3 within skip_identifier_of nameRaw plain_of name_len char_if chars chars_from ascii_first ascii_next ascii_raw ident_first ident_next ident_raw letter digit begins_string begins_raw starts_with char_of char_ends string_of byte_string_of quoted_of raw_of measured body_of body_from piece_of behind_backslash continued plain unquoted raw_end run continuation_blank escape_of hex_escape two_digits second_digit next_byte more_bytes unicode_escape digits_of close_of hex_of simple_of char_len width_of behind_three behind_four second_byte code_of code_of4 scalar xid_start xid_continue in_rows table
asked = refl

-- `(1é)`: NewtypeTuple, since the scan never asks about a name.
pub not_asked : struct_type_of (0x28 ∷ 0x31 ∷ 0xC3 ∷ 0xA9 ∷ 0x29 ∷ []) NoParensMeanUnit DifferentiateNewtype ≡ Ok kind.NewtypeTuple
unfolding struct_type_of parenthesized inside_newtype unless_empty inside_brackets after_name decided scan_of scan_from step_of past_spurious marked_by after_comma past_gap past_char past_string past_byte_string gap_of gap_from item_of comment_of behind_slash line_end line_from block_end block_from mark_of blank_width blank1 blank2 blank3 within skip_identifier_of nameRaw plain_of name_len char_if chars chars_from ascii_first ascii_next ascii_raw ident_first ident_next ident_raw letter digit begins_string begins_raw starts_with char_of char_ends string_of byte_string_of quoted_of raw_of measured body_of body_from piece_of behind_backslash continued plain unquoted raw_end run continuation_blank escape_of hex_escape two_digits second_digit next_byte more_bytes unicode_escape digits_of close_of hex_of simple_of char_len width_of behind_three behind_four second_byte code_of code_of4 scalar xid_start xid_continue in_rows table
not_asked = refl

-- Worked texts of document 01 and of the crate's odd corners. Each is computed.
use Rattle.std.proofs.Common.{Ok, Err}
use mathlib.Core.List.{[], ◌∷◌}
use mathlib.Core.Path.{◌≡◌, refl}
use Rattle.comments.specs.Blocks.{block_end, block_from, mark_of}
use Rattle.comments.specs.Gaps.{behind_slash, comment_of, gap_from, gap_of, item_of as gapItem}
use Rattle.comments.specs.Lines.{line_end, line_from}
use Rattle.integers.specs.Words.{first_of, ident_of}
use Rattle.names.specs.Characters.{char_if, chars, chars_from}
use Rattle.names.specs.Identifiers.{identifier_of, name_len, raw_of as rawName, strict_of}
use Rattle.names.specs.Starts.{begins_raw, begins_string}
use Rattle.strings.specs.Pieces.{behind_backslash, body_from, body_of, line_end as lineGoesOn, piece_of, plain, unquoted}
use Rattle.strings.specs.Quoted.{measured, quoted_of}
use Rattle.strings.specs.Raw.{raw_end, raw_of as rawString}
use Rattle.strings.specs.Strings.{string_of}
use Rattle.attributes.specs.Attributes.{attribute_of, enable_from, keyword_from, opened_of, string_value_from}
use Rattle.attributes.specs.Close.{close_list, list_end, no_end, string_end, string_from}
use Rattle.attributes.specs.Extensions.{added_to, extension_of, first_named, is_word}
use Rattle.attributes.specs.List.{behind_name, item_end, item_of, list_from, list_of, other_char}
use Rattle.attributes.specs.Steps.{consume_from, sign_at, sign_from, skip_from}
use Rattle.attributes.specs.Words.{by_word, keyword_at, keyword_of}
use Rattle.text.specs.Classes.{ascii_first, ascii_next, ascii_raw, blank1, blank2, blank3, blank_width, continuation_blank, digit, ident_first, ident_next, ident_raw, letter, within}
use Rattle.text.specs.Ahead.{next_ahead}
use Rattle.xid.specs.Table.{table}
use Rattle.xid.specs.Xid.{in_rows, xid_continue, xid_start}
use Rattle.text.specs.Refusals.{eof, expected_attribute, expected_attribute_end, expected_string, expected_string_end, no_such_extension, unclosed_block_comment, unexpected_char}
use Rattle.text.specs.Runs.{run}
use Rattle.text.specs.Utf8.{behind_four, behind_three, char_len, code_of, code_of4, second_byte, width_of}
use Rattle.text.specs.Words.{starts_with}

-- `#![enable(implicit_some)]`, `#![enable(unwrap_newtypes,implicit_some,unwrap_variant_newtypes,explicit_struct_names,)]`,
-- `#![enable(implicit_some,implicit_some)]`, `#![enable(r#implicit_some)]`, `# ! [ enable /*)*/ ( explicit_struct_names , ) ] //`: the extensions add up,
-- each once; raw names, comments and a comma behind are fine
accepted : (attribute_of (0x23 ∷ 0x21 ∷ 0x5b ∷ 0x65 ∷ 0x6e ∷ 0x61 ∷ 0x62 ∷ 0x6c ∷ 0x65 ∷ 0x28 ∷ 0x69 ∷ 0x6d ∷ 0x70 ∷ 0x6c ∷ 0x69 ∷ 0x63 ∷ 0x69 ∷ 0x74 ∷ 0x5f ∷ 0x73 ∷ 0x6f ∷ 0x6d ∷ 0x65 ∷ 0x29 ∷ 0x5d ∷ []) ≡ Ok (25, 2))
    × (attribute_of (0x23 ∷ 0x21 ∷ 0x5b ∷ 0x65 ∷ 0x6e ∷ 0x61 ∷ 0x62 ∷ 0x6c ∷ 0x65 ∷ 0x28 ∷ 0x75 ∷ 0x6e ∷ 0x77 ∷ 0x72 ∷ 0x61 ∷ 0x70 ∷ 0x5f ∷ 0x6e ∷ 0x65 ∷ 0x77 ∷ 0x74 ∷ 0x79 ∷ 0x70 ∷ 0x65 ∷ 0x73 ∷ 0x2c ∷ 0x69 ∷ 0x6d ∷ 0x70 ∷ 0x6c ∷ 0x69 ∷ 0x63 ∷ 0x69 ∷ 0x74 ∷ 0x5f ∷ 0x73 ∷ 0x6f ∷ 0x6d ∷ 0x65 ∷ 0x2c ∷ 0x75 ∷ 0x6e ∷ 0x77 ∷ 0x72 ∷ 0x61 ∷ 0x70 ∷ 0x5f ∷ 0x76 ∷ 0x61 ∷ 0x72 ∷ 0x69 ∷ 0x61 ∷ 0x6e ∷ 0x74 ∷ 0x5f ∷ 0x6e ∷ 0x65 ∷ 0x77 ∷ 0x74 ∷ 0x79 ∷ 0x70 ∷ 0x65 ∷ 0x73 ∷ 0x2c ∷ 0x65 ∷ 0x78 ∷ 0x70 ∷ 0x6c ∷ 0x69 ∷ 0x63 ∷ 0x69 ∷ 0x74 ∷ 0x5f ∷ 0x73 ∷ 0x74 ∷ 0x72 ∷ 0x75 ∷ 0x63 ∷ 0x74 ∷ 0x5f ∷ 0x6e ∷ 0x61 ∷ 0x6d ∷ 0x65 ∷ 0x73 ∷ 0x2c ∷ 0x29 ∷ 0x5d ∷ []) ≡ Ok (88, 15))
    × (attribute_of (0x23 ∷ 0x21 ∷ 0x5b ∷ 0x65 ∷ 0x6e ∷ 0x61 ∷ 0x62 ∷ 0x6c ∷ 0x65 ∷ 0x28 ∷ 0x69 ∷ 0x6d ∷ 0x70 ∷ 0x6c ∷ 0x69 ∷ 0x63 ∷ 0x69 ∷ 0x74 ∷ 0x5f ∷ 0x73 ∷ 0x6f ∷ 0x6d ∷ 0x65 ∷ 0x2c ∷ 0x69 ∷ 0x6d ∷ 0x70 ∷ 0x6c ∷ 0x69 ∷ 0x63 ∷ 0x69 ∷ 0x74 ∷ 0x5f ∷ 0x73 ∷ 0x6f ∷ 0x6d ∷ 0x65 ∷ 0x29 ∷ 0x5d ∷ []) ≡ Ok (39, 2))
    × (attribute_of (0x23 ∷ 0x21 ∷ 0x5b ∷ 0x65 ∷ 0x6e ∷ 0x61 ∷ 0x62 ∷ 0x6c ∷ 0x65 ∷ 0x28 ∷ 0x72 ∷ 0x23 ∷ 0x69 ∷ 0x6d ∷ 0x70 ∷ 0x6c ∷ 0x69 ∷ 0x63 ∷ 0x69 ∷ 0x74 ∷ 0x5f ∷ 0x73 ∷ 0x6f ∷ 0x6d ∷ 0x65 ∷ 0x29 ∷ 0x5d ∷ []) ≡ Ok (27, 2))
    × (attribute_of (0x23 ∷ 0x20 ∷ 0x21 ∷ 0x20 ∷ 0x5b ∷ 0x20 ∷ 0x65 ∷ 0x6e ∷ 0x61 ∷ 0x62 ∷ 0x6c ∷ 0x65 ∷ 0x20 ∷ 0x2f ∷ 0x2a ∷ 0x29 ∷ 0x2a ∷ 0x2f ∷ 0x20 ∷ 0x28 ∷ 0x20 ∷ 0x65 ∷ 0x78 ∷ 0x70 ∷ 0x6c ∷ 0x69 ∷ 0x63 ∷ 0x69 ∷ 0x74 ∷ 0x5f ∷ 0x73 ∷ 0x74 ∷ 0x72 ∷ 0x75 ∷ 0x63 ∷ 0x74 ∷ 0x5f ∷ 0x6e ∷ 0x61 ∷ 0x6d ∷ 0x65 ∷ 0x73 ∷ 0x20 ∷ 0x2c ∷ 0x20 ∷ 0x29 ∷ 0x20 ∷ 0x5d ∷ 0x20 ∷ 0x2f ∷ 0x2f ∷ []) ≡ Ok (48, 8))
unfolding attribute_of opened_of consume_from skip_from sign_at sign_from keyword_from keyword_at keyword_of by_word first_of ident_of starts_with next_ahead enable_from string_value_from list_of list_from item_of behind_name item_end other_char extension_of first_named is_word added_to close_list list_end no_end string_end string_from gap_of gap_from gapItem comment_of behind_slash block_end block_from mark_of line_end line_from identifier_of begins_string begins_raw rawName strict_of name_len char_if chars chars_from blank_width blank1 blank2 blank3 code_of code_of4 char_len width_of behind_three behind_four second_byte within ident_first ident_next ident_raw ascii_first ascii_next ascii_raw letter digit string_of quoted_of rawString raw_end body_of body_from measured run plain unquoted piece_of behind_backslash lineGoesOn continuation_blank
accepted = (refl, refl, refl, refl, refl)

-- `#![type = "a"]`, `#![schema=r"]"]`: of `type` and `schema` only the string is looked at
strings : (attribute_of (0x23 ∷ 0x21 ∷ 0x5b ∷ 0x74 ∷ 0x79 ∷ 0x70 ∷ 0x65 ∷ 0x20 ∷ 0x3d ∷ 0x20 ∷ 0x22 ∷ 0x61 ∷ 0x22 ∷ 0x5d ∷ []) ≡ Ok (14, 0))
    × (attribute_of (0x23 ∷ 0x21 ∷ 0x5b ∷ 0x73 ∷ 0x63 ∷ 0x68 ∷ 0x65 ∷ 0x6d ∷ 0x61 ∷ 0x3d ∷ 0x72 ∷ 0x22 ∷ 0x5d ∷ 0x22 ∷ 0x5d ∷ []) ≡ Ok (15, 0))
unfolding attribute_of opened_of consume_from skip_from sign_at sign_from keyword_from keyword_at keyword_of by_word first_of ident_of starts_with next_ahead enable_from string_value_from list_of list_from item_of behind_name item_end other_char extension_of first_named is_word added_to close_list list_end no_end string_end string_from gap_of gap_from gapItem comment_of behind_slash block_end block_from mark_of line_end line_from identifier_of begins_string begins_raw rawName strict_of name_len char_if chars chars_from blank_width blank1 blank2 blank3 code_of code_of4 char_len width_of behind_three behind_four second_byte within ident_first ident_next ident_raw ascii_first ascii_next ascii_raw letter digit string_of quoted_of rawString raw_end body_of body_from measured run plain unquoted piece_of behind_backslash lineGoesOn continuation_blank
strings = (refl, refl)

-- `#`, `#![`, `#[enable(implicit_some)]`, `#![enabled(implicit_some)]`, `#![enable implicit_some]`, `#![é]`, `#é`, `#![enable é]`, `#![type "a"]`, `1`,
-- `#[/x`, `#/`, `#![/*`: 19 at the `#`, and what a comment is refused for comes first
no_attribute : (attribute_of (0x23 ∷ []) ≡ Err (expected_attribute 0))
    × (attribute_of (0x23 ∷ 0x21 ∷ 0x5b ∷ []) ≡ Err (expected_attribute 0))
    × (attribute_of (0x23 ∷ 0x5b ∷ 0x65 ∷ 0x6e ∷ 0x61 ∷ 0x62 ∷ 0x6c ∷ 0x65 ∷ 0x28 ∷ 0x69 ∷ 0x6d ∷ 0x70 ∷ 0x6c ∷ 0x69 ∷ 0x63 ∷ 0x69 ∷ 0x74 ∷ 0x5f ∷ 0x73 ∷ 0x6f ∷ 0x6d ∷ 0x65 ∷ 0x29 ∷ 0x5d ∷ []) ≡ Err (expected_attribute 0))
    × (attribute_of (0x23 ∷ 0x21 ∷ 0x5b ∷ 0x65 ∷ 0x6e ∷ 0x61 ∷ 0x62 ∷ 0x6c ∷ 0x65 ∷ 0x64 ∷ 0x28 ∷ 0x69 ∷ 0x6d ∷ 0x70 ∷ 0x6c ∷ 0x69 ∷ 0x63 ∷ 0x69 ∷ 0x74 ∷ 0x5f ∷ 0x73 ∷ 0x6f ∷ 0x6d ∷ 0x65 ∷ 0x29 ∷ 0x5d ∷ []) ≡ Err (expected_attribute 0))
    × (attribute_of (0x23 ∷ 0x21 ∷ 0x5b ∷ 0x65 ∷ 0x6e ∷ 0x61 ∷ 0x62 ∷ 0x6c ∷ 0x65 ∷ 0x20 ∷ 0x69 ∷ 0x6d ∷ 0x70 ∷ 0x6c ∷ 0x69 ∷ 0x63 ∷ 0x69 ∷ 0x74 ∷ 0x5f ∷ 0x73 ∷ 0x6f ∷ 0x6d ∷ 0x65 ∷ 0x5d ∷ []) ≡ Err (expected_attribute 0))
    × (attribute_of (0x23 ∷ 0x21 ∷ 0x5b ∷ 0xc3 ∷ 0xa9 ∷ 0x5d ∷ []) ≡ Err (expected_attribute 0))
    × (attribute_of (0x23 ∷ 0xc3 ∷ 0xa9 ∷ []) ≡ Err (expected_attribute 0))
    × (attribute_of (0x23 ∷ 0x21 ∷ 0x5b ∷ 0x65 ∷ 0x6e ∷ 0x61 ∷ 0x62 ∷ 0x6c ∷ 0x65 ∷ 0x20 ∷ 0xc3 ∷ 0xa9 ∷ 0x5d ∷ []) ≡ Err (expected_attribute 0))
    × (attribute_of (0x23 ∷ 0x21 ∷ 0x5b ∷ 0x74 ∷ 0x79 ∷ 0x70 ∷ 0x65 ∷ 0x20 ∷ 0x22 ∷ 0x61 ∷ 0x22 ∷ 0x5d ∷ []) ≡ Err (expected_attribute 0))
    × (attribute_of (0x31 ∷ []) ≡ Err (expected_attribute 0))
    × (attribute_of (0x23 ∷ 0x5b ∷ 0x2f ∷ 0x78 ∷ []) ≡ Err (unexpected_char 4))
    × (attribute_of (0x23 ∷ 0x2f ∷ []) ≡ Err (eof 2))
    × (attribute_of (0x23 ∷ 0x21 ∷ 0x5b ∷ 0x2f ∷ 0x2a ∷ []) ≡ Err (unclosed_block_comment 5))
unfolding attribute_of opened_of consume_from skip_from sign_at sign_from keyword_from keyword_at keyword_of by_word first_of ident_of starts_with next_ahead enable_from string_value_from list_of list_from item_of behind_name item_end other_char extension_of first_named is_word added_to close_list list_end no_end string_end string_from gap_of gap_from gapItem comment_of behind_slash block_end block_from mark_of line_end line_from identifier_of begins_string begins_raw rawName strict_of name_len char_if chars chars_from blank_width blank1 blank2 blank3 code_of code_of4 char_len width_of behind_three behind_four second_byte within ident_first ident_next ident_raw ascii_first ascii_next ascii_raw letter digit string_of quoted_of rawString raw_end body_of body_from measured run plain unquoted piece_of behind_backslash lineGoesOn continuation_blank
no_attribute = (refl, refl, refl, refl, refl, refl, refl, refl, refl, refl, refl, refl, refl)

-- `#![enable(implicit_some 5)]`, `#![enable(implicit_some,,)]`, `#![enable(implicit_some,.)]`, `#![enable(implicit_some`, `#![enable(implicit_some,`,
-- `#![enable(implicit_some)`, `#![type="a")]`, `#![enable(implicit_some]/x`: 20 at the `#`
no-end : (attribute_of (0x23 ∷ 0x21 ∷ 0x5b ∷ 0x65 ∷ 0x6e ∷ 0x61 ∷ 0x62 ∷ 0x6c ∷ 0x65 ∷ 0x28 ∷ 0x69 ∷ 0x6d ∷ 0x70 ∷ 0x6c ∷ 0x69 ∷ 0x63 ∷ 0x69 ∷ 0x74 ∷ 0x5f ∷ 0x73 ∷ 0x6f ∷ 0x6d ∷ 0x65 ∷ 0x20 ∷ 0x35 ∷ 0x29 ∷ 0x5d ∷ []) ≡ Err (expected_attribute_end 0))
    × (attribute_of (0x23 ∷ 0x21 ∷ 0x5b ∷ 0x65 ∷ 0x6e ∷ 0x61 ∷ 0x62 ∷ 0x6c ∷ 0x65 ∷ 0x28 ∷ 0x69 ∷ 0x6d ∷ 0x70 ∷ 0x6c ∷ 0x69 ∷ 0x63 ∷ 0x69 ∷ 0x74 ∷ 0x5f ∷ 0x73 ∷ 0x6f ∷ 0x6d ∷ 0x65 ∷ 0x2c ∷ 0x2c ∷ 0x29 ∷ 0x5d ∷ []) ≡ Err (expected_attribute_end 0))
    × (attribute_of (0x23 ∷ 0x21 ∷ 0x5b ∷ 0x65 ∷ 0x6e ∷ 0x61 ∷ 0x62 ∷ 0x6c ∷ 0x65 ∷ 0x28 ∷ 0x69 ∷ 0x6d ∷ 0x70 ∷ 0x6c ∷ 0x69 ∷ 0x63 ∷ 0x69 ∷ 0x74 ∷ 0x5f ∷ 0x73 ∷ 0x6f ∷ 0x6d ∷ 0x65 ∷ 0x2c ∷ 0x2e ∷ 0x29 ∷ 0x5d ∷ []) ≡ Err (expected_attribute_end 0))
    × (attribute_of (0x23 ∷ 0x21 ∷ 0x5b ∷ 0x65 ∷ 0x6e ∷ 0x61 ∷ 0x62 ∷ 0x6c ∷ 0x65 ∷ 0x28 ∷ 0x69 ∷ 0x6d ∷ 0x70 ∷ 0x6c ∷ 0x69 ∷ 0x63 ∷ 0x69 ∷ 0x74 ∷ 0x5f ∷ 0x73 ∷ 0x6f ∷ 0x6d ∷ 0x65 ∷ []) ≡ Err (expected_attribute_end 0))
    × (attribute_of (0x23 ∷ 0x21 ∷ 0x5b ∷ 0x65 ∷ 0x6e ∷ 0x61 ∷ 0x62 ∷ 0x6c ∷ 0x65 ∷ 0x28 ∷ 0x69 ∷ 0x6d ∷ 0x70 ∷ 0x6c ∷ 0x69 ∷ 0x63 ∷ 0x69 ∷ 0x74 ∷ 0x5f ∷ 0x73 ∷ 0x6f ∷ 0x6d ∷ 0x65 ∷ 0x2c ∷ []) ≡ Err (expected_attribute_end 0))
    × (attribute_of (0x23 ∷ 0x21 ∷ 0x5b ∷ 0x65 ∷ 0x6e ∷ 0x61 ∷ 0x62 ∷ 0x6c ∷ 0x65 ∷ 0x28 ∷ 0x69 ∷ 0x6d ∷ 0x70 ∷ 0x6c ∷ 0x69 ∷ 0x63 ∷ 0x69 ∷ 0x74 ∷ 0x5f ∷ 0x73 ∷ 0x6f ∷ 0x6d ∷ 0x65 ∷ 0x29 ∷ []) ≡ Err (expected_attribute_end 0))
    × (attribute_of (0x23 ∷ 0x21 ∷ 0x5b ∷ 0x74 ∷ 0x79 ∷ 0x70 ∷ 0x65 ∷ 0x3d ∷ 0x22 ∷ 0x61 ∷ 0x22 ∷ 0x29 ∷ 0x5d ∷ []) ≡ Err (expected_attribute_end 0))
    × (attribute_of (0x23 ∷ 0x21 ∷ 0x5b ∷ 0x65 ∷ 0x6e ∷ 0x61 ∷ 0x62 ∷ 0x6c ∷ 0x65 ∷ 0x28 ∷ 0x69 ∷ 0x6d ∷ 0x70 ∷ 0x6c ∷ 0x69 ∷ 0x63 ∷ 0x69 ∷ 0x74 ∷ 0x5f ∷ 0x73 ∷ 0x6f ∷ 0x6d ∷ 0x65 ∷ 0x5d ∷ 0x2f ∷ 0x78 ∷ []) ≡ Err (unexpected_char 26))
unfolding attribute_of opened_of consume_from skip_from sign_at sign_from keyword_from keyword_at keyword_of by_word first_of ident_of starts_with next_ahead enable_from string_value_from list_of list_from item_of behind_name item_end other_char extension_of first_named is_word added_to close_list list_end no_end string_end string_from gap_of gap_from gapItem comment_of behind_slash block_end block_from mark_of line_end line_from identifier_of begins_string begins_raw rawName strict_of name_len char_if chars chars_from blank_width blank1 blank2 blank3 code_of code_of4 char_len width_of behind_three behind_four second_byte within ident_first ident_next ident_raw ascii_first ascii_next ascii_raw letter digit string_of quoted_of rawString raw_end body_of body_from measured run plain unquoted piece_of behind_backslash lineGoesOn continuation_blank
no-end = (refl, refl, refl, refl, refl, refl, refl, refl)

-- `#![enable()]`, `#![enable(,)]`, `#![enable(5)]`, `#![enable(r#)]`, `#![enable(implicit_some.)]`, `#![enable(implicit_some,5)]`, `#![enable(implicit)]`,
-- `#![enable(`: 21 at the `#`, and 6 where the text ends instead
no_extension : (attribute_of (0x23 ∷ 0x21 ∷ 0x5b ∷ 0x65 ∷ 0x6e ∷ 0x61 ∷ 0x62 ∷ 0x6c ∷ 0x65 ∷ 0x28 ∷ 0x29 ∷ 0x5d ∷ []) ≡ Err (no_such_extension 0))
    × (attribute_of (0x23 ∷ 0x21 ∷ 0x5b ∷ 0x65 ∷ 0x6e ∷ 0x61 ∷ 0x62 ∷ 0x6c ∷ 0x65 ∷ 0x28 ∷ 0x2c ∷ 0x29 ∷ 0x5d ∷ []) ≡ Err (no_such_extension 0))
    × (attribute_of (0x23 ∷ 0x21 ∷ 0x5b ∷ 0x65 ∷ 0x6e ∷ 0x61 ∷ 0x62 ∷ 0x6c ∷ 0x65 ∷ 0x28 ∷ 0x35 ∷ 0x29 ∷ 0x5d ∷ []) ≡ Err (no_such_extension 0))
    × (attribute_of (0x23 ∷ 0x21 ∷ 0x5b ∷ 0x65 ∷ 0x6e ∷ 0x61 ∷ 0x62 ∷ 0x6c ∷ 0x65 ∷ 0x28 ∷ 0x72 ∷ 0x23 ∷ 0x29 ∷ 0x5d ∷ []) ≡ Err (no_such_extension 0))
    × (attribute_of (0x23 ∷ 0x21 ∷ 0x5b ∷ 0x65 ∷ 0x6e ∷ 0x61 ∷ 0x62 ∷ 0x6c ∷ 0x65 ∷ 0x28 ∷ 0x69 ∷ 0x6d ∷ 0x70 ∷ 0x6c ∷ 0x69 ∷ 0x63 ∷ 0x69 ∷ 0x74 ∷ 0x5f ∷ 0x73 ∷ 0x6f ∷ 0x6d ∷ 0x65 ∷ 0x2e ∷ 0x29 ∷ 0x5d ∷ []) ≡ Err (no_such_extension 0))
    × (attribute_of (0x23 ∷ 0x21 ∷ 0x5b ∷ 0x65 ∷ 0x6e ∷ 0x61 ∷ 0x62 ∷ 0x6c ∷ 0x65 ∷ 0x28 ∷ 0x69 ∷ 0x6d ∷ 0x70 ∷ 0x6c ∷ 0x69 ∷ 0x63 ∷ 0x69 ∷ 0x74 ∷ 0x5f ∷ 0x73 ∷ 0x6f ∷ 0x6d ∷ 0x65 ∷ 0x2c ∷ 0x35 ∷ 0x29 ∷ 0x5d ∷ []) ≡ Err (no_such_extension 0))
    × (attribute_of (0x23 ∷ 0x21 ∷ 0x5b ∷ 0x65 ∷ 0x6e ∷ 0x61 ∷ 0x62 ∷ 0x6c ∷ 0x65 ∷ 0x28 ∷ 0x69 ∷ 0x6d ∷ 0x70 ∷ 0x6c ∷ 0x69 ∷ 0x63 ∷ 0x69 ∷ 0x74 ∷ 0x29 ∷ 0x5d ∷ []) ≡ Err (no_such_extension 0))
    × (attribute_of (0x23 ∷ 0x21 ∷ 0x5b ∷ 0x65 ∷ 0x6e ∷ 0x61 ∷ 0x62 ∷ 0x6c ∷ 0x65 ∷ 0x28 ∷ []) ≡ Err (eof 10))
unfolding attribute_of opened_of consume_from skip_from sign_at sign_from keyword_from keyword_at keyword_of by_word first_of ident_of starts_with next_ahead enable_from string_value_from list_of list_from item_of behind_name item_end other_char extension_of first_named is_word added_to close_list list_end no_end string_end string_from gap_of gap_from gapItem comment_of behind_slash block_end block_from mark_of line_end line_from identifier_of begins_string begins_raw rawName strict_of name_len char_if chars chars_from blank_width blank1 blank2 blank3 code_of code_of4 char_len width_of behind_three behind_four second_byte within ident_first ident_next ident_raw ascii_first ascii_next ascii_raw letter digit string_of quoted_of rawString raw_end body_of body_from measured run plain unquoted piece_of behind_backslash lineGoesOn continuation_blank
no_extension = (refl, refl, refl, refl, refl, refl, refl, refl)

-- `#![type = a]`, `#![type = rx]`, `#![type=`, `#![type=é]`, `#![type="a]`: 16 and 17 stand where the string does
no_string : (attribute_of (0x23 ∷ 0x21 ∷ 0x5b ∷ 0x74 ∷ 0x79 ∷ 0x70 ∷ 0x65 ∷ 0x20 ∷ 0x3d ∷ 0x20 ∷ 0x61 ∷ 0x5d ∷ []) ≡ Err (expected_string 10))
    × (attribute_of (0x23 ∷ 0x21 ∷ 0x5b ∷ 0x74 ∷ 0x79 ∷ 0x70 ∷ 0x65 ∷ 0x20 ∷ 0x3d ∷ 0x20 ∷ 0x72 ∷ 0x78 ∷ 0x5d ∷ []) ≡ Err (expected_string 11))
    × (attribute_of (0x23 ∷ 0x21 ∷ 0x5b ∷ 0x74 ∷ 0x79 ∷ 0x70 ∷ 0x65 ∷ 0x3d ∷ []) ≡ Err (expected_string 8))
    × (attribute_of (0x23 ∷ 0x21 ∷ 0x5b ∷ 0x74 ∷ 0x79 ∷ 0x70 ∷ 0x65 ∷ 0x3d ∷ 0xc3 ∷ 0xa9 ∷ 0x5d ∷ []) ≡ Err (expected_string 8))
    × (attribute_of (0x23 ∷ 0x21 ∷ 0x5b ∷ 0x74 ∷ 0x79 ∷ 0x70 ∷ 0x65 ∷ 0x3d ∷ 0x22 ∷ 0x61 ∷ 0x5d ∷ []) ≡ Err (expected_string_end 9))
unfolding attribute_of opened_of consume_from skip_from sign_at sign_from keyword_from keyword_at keyword_of by_word first_of ident_of starts_with next_ahead enable_from string_value_from list_of list_from item_of behind_name item_end other_char extension_of first_named is_word added_to close_list list_end no_end string_end string_from gap_of gap_from gapItem comment_of behind_slash block_end block_from mark_of line_end line_from identifier_of begins_string begins_raw rawName strict_of name_len char_if chars chars_from blank_width blank1 blank2 blank3 code_of code_of4 char_len width_of behind_three behind_four second_byte within ident_first ident_next ident_raw ascii_first ascii_next ascii_raw letter digit string_of quoted_of rawString raw_end body_of body_from measured run plain unquoted piece_of behind_backslash lineGoesOn continuation_blank
no_string = (refl, refl, refl, refl, refl)

-- `#![enableé]`, `#![enable(é)]`, `#![enable(nopé)]`, `#![enable(implicit_some é)]`, `#![enable(implicit_some,é)]`, `#![enable(implicit_some.é)]`,
-- `#![enable(5é)]`
accents : (attribute_of (0x23 ∷ 0x21 ∷ 0x5b ∷ 0x65 ∷ 0x6e ∷ 0x61 ∷ 0x62 ∷ 0x6c ∷ 0x65 ∷ 0xc3 ∷ 0xa9 ∷ 0x5d ∷ []) ≡ Err (expected_attribute 0))
    × (attribute_of (0x23 ∷ 0x21 ∷ 0x5b ∷ 0x65 ∷ 0x6e ∷ 0x61 ∷ 0x62 ∷ 0x6c ∷ 0x65 ∷ 0x28 ∷ 0xc3 ∷ 0xa9 ∷ 0x29 ∷ 0x5d ∷ []) ≡ Err (no_such_extension 0))
    × (attribute_of (0x23 ∷ 0x21 ∷ 0x5b ∷ 0x65 ∷ 0x6e ∷ 0x61 ∷ 0x62 ∷ 0x6c ∷ 0x65 ∷ 0x28 ∷ 0x6e ∷ 0x6f ∷ 0x70 ∷ 0xc3 ∷ 0xa9 ∷ 0x29 ∷ 0x5d ∷ []) ≡ Err (no_such_extension 0))
    × (attribute_of (0x23 ∷ 0x21 ∷ 0x5b ∷ 0x65 ∷ 0x6e ∷ 0x61 ∷ 0x62 ∷ 0x6c ∷ 0x65 ∷ 0x28 ∷ 0x69 ∷ 0x6d ∷ 0x70 ∷ 0x6c ∷ 0x69 ∷ 0x63 ∷ 0x69 ∷ 0x74 ∷ 0x5f ∷ 0x73 ∷ 0x6f ∷ 0x6d ∷ 0x65 ∷ 0x20 ∷ 0xc3 ∷ 0xa9 ∷ 0x29 ∷ 0x5d ∷ []) ≡ Err (expected_attribute_end 0))
    × (attribute_of (0x23 ∷ 0x21 ∷ 0x5b ∷ 0x65 ∷ 0x6e ∷ 0x61 ∷ 0x62 ∷ 0x6c ∷ 0x65 ∷ 0x28 ∷ 0x69 ∷ 0x6d ∷ 0x70 ∷ 0x6c ∷ 0x69 ∷ 0x63 ∷ 0x69 ∷ 0x74 ∷ 0x5f ∷ 0x73 ∷ 0x6f ∷ 0x6d ∷ 0x65 ∷ 0x2c ∷ 0xc3 ∷ 0xa9 ∷ 0x29 ∷ 0x5d ∷ []) ≡ Err (no_such_extension 0))
    × (attribute_of (0x23 ∷ 0x21 ∷ 0x5b ∷ 0x65 ∷ 0x6e ∷ 0x61 ∷ 0x62 ∷ 0x6c ∷ 0x65 ∷ 0x28 ∷ 0x69 ∷ 0x6d ∷ 0x70 ∷ 0x6c ∷ 0x69 ∷ 0x63 ∷ 0x69 ∷ 0x74 ∷ 0x5f ∷ 0x73 ∷ 0x6f ∷ 0x6d ∷ 0x65 ∷ 0x2e ∷ 0xc3 ∷ 0xa9 ∷ 0x29 ∷ 0x5d ∷ []) ≡ Err (no_such_extension 0))
    × (attribute_of (0x23 ∷ 0x21 ∷ 0x5b ∷ 0x65 ∷ 0x6e ∷ 0x61 ∷ 0x62 ∷ 0x6c ∷ 0x65 ∷ 0x28 ∷ 0x35 ∷ 0xc3 ∷ 0xa9 ∷ 0x29 ∷ 0x5d ∷ []) ≡ Err (no_such_extension 0))
unfolding attribute_of opened_of consume_from skip_from sign_at sign_from keyword_from keyword_at keyword_of by_word first_of ident_of starts_with next_ahead enable_from string_value_from list_of list_from item_of behind_name item_end other_char extension_of first_named is_word added_to close_list list_end no_end string_end string_from gap_of gap_from gapItem comment_of behind_slash block_end block_from mark_of line_end line_from identifier_of begins_string begins_raw rawName strict_of name_len char_if chars chars_from blank_width blank1 blank2 blank3 code_of code_of4 char_len width_of behind_three behind_four second_byte within ident_first ident_next ident_raw ascii_first ascii_next ascii_raw letter digit string_of quoted_of rawString raw_end body_of body_from measured run plain unquoted piece_of behind_backslash lineGoesOn continuation_blank xid_start xid_continue in_rows table
accents = (refl, refl, refl, refl, refl, refl, refl)

-- The starred worked texts hold, all of them, and so do those of change requests 1, 6 and 2. Each is computed. Assumes nothing.
use mathlib.Core.Path.{refl}
use Rattle.text.specs.Classes.{within, blank, blank1, blank2, blank3, blank_width, digit, letter, hex_digit, int_char, float_char, ident_first, ident_next, ident_raw, continuation_blank, ascii_first, ascii_next, ascii_raw}
use Rattle.text.specs.Ahead.{next_ahead}
use Rattle.text.specs.Judged.{judged_of as judgedOf·text, place_fits, behind_front}
use Rattle.floats.specs.Judged.{float_judged as judgedOf·floats, well_to, stripped}
use Rattle.text.specs.Runs.{run, run2, ascii_for}
use Rattle.text.specs.Utf8.{encode, second_byte, behind_three, behind_four, width_of, char_len, utf8_from, utf8_of, code_of4, code_of, scalar, encoded_len, encode_answer, encoded_into}
use Rattle.text.specs.Words.{starts_with}
use Rattle.comments.specs.Blocks.{mark_of, block_from, block_end}
use Rattle.comments.specs.Gaps.{behind_slash, comment_of, item_of as itemOf·comments, gap_from, gap_of}
use Rattle.attributes.specs.List.{item_of as itemOf·attributes, other_char, item_end, behind_name, list_from, list_of}
use Rattle.comments.specs.Lines.{line_from, line_end as lineEnd·comments}
use Rattle.strings.specs.Pieces.{line_end as lineEnd·strings, unquoted, plain, behind_backslash, piece_of, decoded_len, body_from, body_of, decoded_of}
use Rattle.escapes.specs.Escapes.{hex_of, second_digit, two_digits, close_of, digits_of, unicode_escape, next_byte, more_bytes, hex_escape, simple_of, escape_of}
use Rattle.rows.specs.Order.{orderly, in_order_from, in_order}
use Rattle.rows.specs.Rows.{entry_at, entries_of, written, flat, laid}
use Rattle.reading.specs.Kept.{any_quiet, count_of, kept_before, last_quiet, is_moved, are_moved, all_behind, are_kept, largest, kept_behind}
use Rattle.reading.specs.Owed.{quiet_byte}
use Rattle.reading.specs.Readings.{place, entries, counted, end_of}
use Rattle.reading.specs.Tokens.{tokens_from}
use Rattle.names.specs.Characters.{char_if, chars_from, chars}
use Rattle.names.specs.Classify.{begins_float, suffixed, named, missing, word_of as wordOf·names}
use Rattle.attributes.specs.Words.{keyword_of as wordOf·attributes, by_word, keyword_at}
use Rattle.names.specs.Identifiers.{name_len, plain_of, raw_of as rawOf·names, skip_identifier_of, strict_of, identifier_of}
use Rattle.strings.specs.Raw.{raw_of as rawOf·strings, raw_end, raw_contents}
use Rattle.names.specs.Starts.{begins_string, begins_raw}
use Rattle.integers.specs.Words.{ident_of, first_of}
use Rattle.digits.specs.Digits.{turn_of, digits_from, run_of}
use Rattle.digits.specs.Value.{value_from as valueFrom·digits}
use Rattle.attributes.specs.Attributes.{string_value_from as valueFrom·attributes, enable_from, keyword_from, opened_of, attribute_of}
use Rattle.integers.specs.Front.{sign_of, prefix_of, front_of}
use Rattle.integers.specs.Integer.{numeral_of, typed_of, any_of}
use Rattle.integers.specs.Width.{width_at, limit_at, first_fit, suffix_word, suffix_of}
use Rattle.floats.specs.Classes.{float_goes}
use Rattle.floats.specs.Float.{run_at, float_of}
use Rattle.floats.specs.Grammar.{step_of as stepOf·floats, accepts}
use Rattle.structs.specs.Scan.{step_of as stepOf·structs, scan_of as scanOf·structs, marked_by, past_spurious, after_comma, scan_from}
use Rattle.numbers.specs.Numbers.{float_ahead, number_of}
use Rattle.strings.specs.Chars.{char_ends, char_of, byte_ends, byte_of}
use Rattle.strings.specs.Quoted.{measured, quoted_of}
use Rattle.strings.specs.Strings.{string_of, byte_string_of, string_decoded, byte_string_decoded}
use Rattle.attributes.specs.Close.{no_end, list_end, close_list, string_end, string_from}
use Rattle.attributes.specs.Extensions.{is_word, first_named, extension_of, added_to}
use Rattle.attributes.specs.Steps.{skip_from, consume_from, sign_at, sign_from}
use Rattle.tokens.specs.Ron.{ron_token}
use Rattle.tokens.specs.Shapes.{mark_kind, starts_number, behind_b, behind_r, shape_of}
use Rattle.tokens.specs.Token.{token_of}
use Rattle.read.specs.Read.{read_answer, read_tape}
use Rattle.repair.specs.Repair.{cut_fits, repair_fits, leading, joins, scan_of as scanOf·repair, repair_answer_of, cleared, repair_tape_of, repair_of, repaired_tape}
use Rattle.repair.specs.inner.Steps.{laid_at}
use Rattle.entries.specs.Named.{by_kind, inside_of, named_of}
use Rattle.structs.specs.Passes.{past_gap, past_char, past_string, past_byte_string}
use Rattle.structs.specs.Structs.{decided, after_name, inside_brackets as contentsOf·structs, unless_empty, parenthesized, inside_newtype, struct_type_of}
use Rattle.sarridok.specs.Contents.{contents_of as contentsOf·sarridok, decoded_answer, decoded_out}
use Rattle.sarridok.specs.Integers.{entry_integer, item_of as itemOf·sarridok, items_from, integers_of, magnitudes_after, codes_after}
use Rattle.sarridok.specs.Skip.{skip_of}
use Rattle.sarridok.specs.StructKind.{struct_kind_of}
use Rattle.sarridok.specs.Typed.{integer_at, integer_of}
use Rattle.sarridok.specs.Walked.{behind_walk_front, walk_of, links_after}
use Rattle.grammar.specs.Kinds.{kind_of, kinds_of}
use Rattle.grammar.specs.Walk.{check, link}
use Rattle.fields.specs.Fields.{again_from, is_named, same}
use Rattle.fields.specs.Names.{raw_fits, raws_fit}
use Rattle.worked.specs.Fields.{field_texts}
use Rattle.worked.specs.Gaps.{gap_texts}
use Rattle.worked.specs.Lists.{list_texts}
use Rattle.worked.specs.Reasons.{reason_texts}
use Rattle.worked.specs.Texts.{AllHold, texts}

-- the lists, by one computation
all_worked : AllHold texts × AllHold reason_texts × AllHold gap_texts × AllHold field_texts × AllHold list_texts
unfolding within blank blank1 blank2 blank3 blank_width digit letter hex_digit int_char float_char ascii_first ascii_next ascii_raw next_ahead ident_first ident_next ident_raw continuation_blank judgedOf·text judgedOf·floats place_fits behind_front run run2 ascii_for encode second_byte behind_three behind_four width_of char_len utf8_from utf8_of code_of4 code_of scalar encoded_len encode_answer encoded_into mark_of block_from block_end behind_slash comment_of itemOf·comments itemOf·attributes gap_from gap_of line_from lineEnd·comments lineEnd·strings hex_of second_digit two_digits close_of digits_of unicode_escape next_byte more_bytes hex_escape simple_of escape_of orderly in_order_from in_order entry_at entries_of written flat laid any_quiet count_of kept_before last_quiet is_moved are_moved all_behind are_kept largest kept_behind quiet_byte place entries counted end_of tokens_from char_if chars_from chars begins_float suffixed named missing wordOf·names wordOf·attributes name_len plain_of rawOf·names rawOf·strings skip_identifier_of strict_of identifier_of starts_with begins_string begins_raw turn_of digits_from run_of valueFrom·digits valueFrom·attributes sign_of prefix_of front_of numeral_of typed_of any_of width_at limit_at first_fit suffix_word suffix_of ident_of first_of float_goes run_at float_of stepOf·floats stepOf·structs accepts well_to stripped float_ahead number_of char_ends char_of byte_ends byte_of unquoted plain behind_backslash piece_of decoded_len body_from body_of decoded_of measured quoted_of raw_end raw_contents string_of byte_string_of string_decoded byte_string_decoded enable_from keyword_from opened_of attribute_of no_end list_end close_list string_end string_from is_word first_named extension_of added_to other_char item_end behind_name list_from list_of skip_from consume_from sign_at sign_from by_word keyword_at ron_token mark_kind starts_number behind_b behind_r shape_of token_of read_answer read_tape cut_fits repair_fits leading joins scanOf·repair scanOf·structs repair_answer_of cleared repair_tape_of repair_of repaired_tape laid_at by_kind inside_of named_of past_gap past_char past_string past_byte_string marked_by past_spurious after_comma scan_from decided after_name contentsOf·structs contentsOf·sarridok unless_empty parenthesized inside_newtype struct_type_of decoded_answer decoded_out skip_of struct_kind_of integer_at integer_of behind_walk_front walk_of links_after kind_of kinds_of check link again_from is_named same raw_fits raws_fit entry_integer itemOf·sarridok items_from integers_of magnitudes_after codes_after
all_worked = (
  ((refl, refl), ((refl, refl), ((refl, refl), ((refl, refl), ((refl, refl), (refl, (refl, (refl, (refl, (refl, ((refl, refl), (refl, ((refl, refl), tt))))))))))))),
  ((refl, refl), ((refl, refl), ((refl, refl), ((refl, refl), ((refl, refl), ((refl, refl), ((refl, refl), ((refl, refl), (refl, ((refl, refl), (refl, ((refl, refl), tt)))))))))))),
  ((refl, refl), ((refl, refl), ((refl, refl), ((refl, refl), ((refl, refl), ((refl, refl), ((refl, refl), tt))))))),
  ((refl, refl), ((refl, refl), ((refl, refl), ((refl, refl), ((refl, refl), ((refl, refl), ((refl, refl), ((refl, refl), tt)))))))),
  ((refl, refl, refl), ((refl, refl, refl), ((refl, refl, refl), ((refl, refl, refl), ((refl, refl, refl), ((refl, refl, refl), tt)))))),
)

-- document 01, "Worked texts"
pub worked : AllHold texts
worked = all_worked.0

-- each of the eight reasons is given by a text, and each call hands one on
pub worked_reasons : AllHold reason_texts
worked_reasons = all_worked.1

-- what stands before an entry
pub worked_gaps : AllHold gap_texts
worked_gaps = all_worked.2

-- fields that come again, and raw names that are none
pub worked_fields : AllHold field_texts
worked_fields = all_worked.3

-- lists of integers
pub worked_lists : AllHold list_texts
worked_lists = all_worked.4

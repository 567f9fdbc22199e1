-- The worked texts of the rule hold, all of them. Each is computed. Assumes nothing.
use mathlib.Core.Path.{refl}
use Rattle.text.specs.Classes.{within, blank, blank1, blank2, blank3, blank_width, digit, letter, hex_digit, int_char, float_char, ident_first, ident_next, ident_raw, continuation_blank, ascii_first, ascii_next, ascii_raw}
use Rattle.text.specs.Ahead.{next_ahead}
use Rattle.floats.specs.Judged.{float_judged as judgedOf·floats, well_to, stripped}
use Rattle.text.specs.Runs.{run, run2, ascii_for}
use Rattle.text.specs.Utf8.{encode, second_byte, behind_three, behind_four, width_of, char_len, utf8_from, utf8_of, code_of4, code_of, scalar, encoded_len, encode_answer, encoded_into}
use Rattle.text.specs.Words.{starts_with}
use Rattle.comments.specs.Blocks.{mark_of, block_from, block_end}
use Rattle.comments.specs.Gaps.{behind_slash, comment_of, item_of as itemOf·comments, gap_from, gap_of}
use Rattle.attributes.specs.List.{item_of as itemOf·attributes, other_char, item_end, behind_name, list_from, list_of}
use Rattle.comments.specs.Lines.{line_from, line_end as lineEnd·comments}
use Rattle.strings.specs.Pieces.{line_end as lineEnd·strings, unquoted, plain, behind_backslash, piece_of, decoded_len, body_from, body_of, decoded_of}
use Rattle.escapes.specs.Escapes.{hex_of, second_digit, two_digits, close_of, digits_of, unicode_escape, next_byte, more_bytes, hex_escape, simple_of, escape_of}
use Rattle.reading.specs.Kept.{any_quiet, count_of, kept_before, last_quiet, is_moved, are_moved, all_behind, are_kept, largest, kept_behind}
use Rattle.reading.specs.Owed.{quiet_byte}
use Rattle.reading.specs.Readings.{place, entries, counted, end_of}
use Rattle.reading.specs.Tokens.{tokens_from}
use Rattle.names.specs.Characters.{char_if, chars_from, chars}
use Rattle.names.specs.Classify.{begins_float, suffixed, named, missing, word_of as wordOf·names}
use Rattle.attributes.specs.Words.{keyword_of as wordOf·attributes, by_word, keyword_at}
use Rattle.names.specs.Identifiers.{name_len, plain_of, raw_of as rawOf·names, skip_identifier_of, strict_of, identifier_of}
use Rattle.strings.specs.Raw.{raw_of as rawOf·strings, raw_end, raw_contents}
use Rattle.names.specs.Starts.{begins_string, begins_raw}
use Rattle.integers.specs.Words.{ident_of, first_of}
use Rattle.digits.specs.Digits.{turn_of, digits_from, run_of}
use Rattle.digits.specs.Value.{value_from as valueFrom·digits}
use Rattle.attributes.specs.Attributes.{string_value_from as valueFrom·attributes, enable_from, keyword_from, opened_of, attribute_of}
use Rattle.integers.specs.Front.{sign_of, prefix_of, front_of}
use Rattle.integers.specs.Integer.{numeral_of, typed_of, any_of}
use Rattle.integers.specs.Width.{width_at, limit_at, first_fit, suffix_word, suffix_of}
use Rattle.floats.specs.Classes.{float_goes}
use Rattle.floats.specs.Float.{run_at, float_of}
use Rattle.floats.specs.Grammar.{step_of as stepOf·floats, accepts}
use Rattle.numbers.specs.Numbers.{float_ahead, number_of}
use Rattle.strings.specs.Chars.{char_ends, char_of, byte_ends, byte_of}
use Rattle.strings.specs.Quoted.{measured, quoted_of}
use Rattle.strings.specs.Strings.{string_of, byte_string_of, string_decoded, byte_string_decoded}
use Rattle.attributes.specs.Close.{no_end, list_end, close_list, string_end, string_from}
use Rattle.attributes.specs.Extensions.{is_word, first_named, extension_of, added_to}
use Rattle.attributes.specs.Steps.{skip_from, consume_from, sign_at, sign_from}
use Rattle.tokens.specs.Ron.{ron_token}
use Rattle.tokens.specs.Shapes.{mark_kind, starts_number, behind_b, behind_r, shape_of}
use Rattle.tokens.specs.Token.{token_of}
use Rattle.xid.specs.Table.{table}
use Rattle.xid.specs.Xid.{in_rows, xid_continue, xid_start}
use Rattle.octets.specs.Octets.{allowed_of, bad_of, begun3, begun_of}
use Rattle.arriving.specs.Arrivals.{decided, left_at, looks, spoilt, up_to}
use Rattle.arriving.specs.Owing.{tells_end}
use Rattle.settled.specs.Bytes.{closes_byte, decides_byte, stops_byte}
use Rattle.settled.specs.Settled.{behind_slash as slashed, quoted_stays, ron_once, ron_settles, spoilt_for, starts_nothing, stop_from}
use Rattle.settled.specs.Stood.{attribute_stood, enable_stood, end_stood, item_stood, list_stood, sign_stood, value_stood}
use Rattle.pieces.specs.Bars.{bar_of}
use Rattle.arrived.specs.Ruled.{rule_bar, size_bar}
use Rattle.arrived.specs.Texts.{AllHold, given, texts, told_from}

pub worked : AllHold texts
unfolding within blank blank1 blank2 blank3 blank_width digit letter hex_digit int_char float_char ascii_first ascii_next ascii_raw next_ahead ident_first ident_next ident_raw continuation_blank judgedOf·floats run run2 ascii_for encode second_byte behind_three behind_four width_of char_len utf8_from utf8_of code_of4 code_of scalar encoded_len encode_answer encoded_into mark_of block_from block_end behind_slash comment_of itemOf·comments itemOf·attributes gap_from gap_of line_from lineEnd·comments lineEnd·strings hex_of second_digit two_digits close_of digits_of unicode_escape next_byte more_bytes hex_escape simple_of escape_of any_quiet count_of kept_before last_quiet is_moved are_moved all_behind are_kept largest kept_behind quiet_byte place entries counted end_of tokens_from char_if chars_from chars begins_float suffixed named missing wordOf·names wordOf·attributes name_len plain_of rawOf·names rawOf·strings skip_identifier_of strict_of identifier_of starts_with begins_string begins_raw turn_of digits_from run_of valueFrom·digits valueFrom·attributes sign_of prefix_of front_of numeral_of typed_of any_of width_at limit_at first_fit suffix_word suffix_of ident_of first_of float_goes run_at float_of stepOf·floats accepts well_to stripped float_ahead number_of char_ends char_of byte_ends byte_of unquoted plain behind_backslash piece_of decoded_len body_from body_of decoded_of measured quoted_of raw_end raw_contents string_of byte_string_of string_decoded byte_string_decoded enable_from keyword_from opened_of attribute_of no_end list_end close_list string_end string_from is_word first_named extension_of added_to other_char item_end behind_name list_from list_of skip_from consume_from sign_at sign_from by_word keyword_at ron_token mark_kind starts_number behind_b behind_r shape_of token_of table in_rows xid_continue xid_start allowed_of bad_of begun3 begun_of decided left_at looks spoilt up_to tells_end closes_byte decides_byte stops_byte slashed quoted_stays ron_once ron_settles spoilt_for starts_nothing stop_from attribute_stood enable_stood end_stood item_stood list_stood sign_stood value_stood bar_of rule_bar size_bar given told_from
worked = (refl, (refl, (refl, (refl, (refl, (refl, (refl, (refl, (refl, (refl, (refl, (refl, (refl, (refl, (refl, (refl, (refl, (refl, (refl, (refl, (refl, tt)))))))))))))))))))))

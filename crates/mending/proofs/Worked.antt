-- The worked repair of document 01, computed from the definitions: `[7, 8, 9]`, cut 4 to 6, new bytes `/*8,*/`: accepted, kept 3 and, since the 9 has another gap, 1. Assumes nothing.
use Rattle.std.proofs.Common.{Ok, Err}
use Prim.Native.Nat.{ℕ}
use mathlib.Core.List.{List, [], ◌∷◌}
use mathlib.Core.Path.{◌≡◌, refl}
use Rattle.text.specs.Refusals.{unclosed_block_comment}
use Rattle.text.specs.Classes.{within, blank1, blank2, blank3, blank_width, digit, hex_digit, int_char, float_char, letter}
use Rattle.text.specs.Runs.{run, run2}
use Rattle.text.specs.Words.{starts_with}
use Rattle.comments.specs.Blocks.{block_end, block_from, mark_of}
use Rattle.comments.specs.Gaps.{behind_slash, comment_of, gap_from, gap_of, item_of}
use Rattle.digits.specs.Digits.{hex_of, digits_from, run_of, turn_of}
use Rattle.integers.specs.Front.{front_of, prefix_of, sign_of}
use Rattle.integers.specs.Integer.{any_of, numeral_of}
use Rattle.integers.specs.Width.{first_fit, limit_at, suffix_of, suffix_word, width_at}
use Rattle.integers.specs.Words.{first_of, ident_of}
use Rattle.floats.specs.Classes.{float_goes}
use Rattle.numbers.specs.Numbers.{float_ahead, number_of}
use Rattle.tokens.specs.Ron.{ron_token}
use Rattle.tokens.specs.Shapes.{behind_b, behind_r, mark_kind, shape_of, starts_number}
use Rattle.tokens.specs.Token.{token_of}
use Rattle.rows.specs.Order.{in_order, in_order_from, orderly}
use Rattle.rows.specs.Rows.{entries_of, flat, laid}
use Rattle.reading.specs.Owed.{quiet_byte}
use Rattle.reading.specs.Kept.{last_quiet}
use Rattle.reading.specs.Readings.{◌▸◌, complete, end_of, entries, place}
use Rattle.reading.specs.Tokens.{tokens_from}
use Rattle.read.specs.Read.{reading_of}
use Rattle.repair.specs.Repair.{cleared, cut_fits, joins, leading, repair_answer_of, repair_fits, repair_tape_of, scan_of}

-- ---- the old text and its tape, with room for one entry more

abbrev list : List ℕ
list = 0x5b ∷ 0x37 ∷ 0x2c ∷ 0x20 ∷ 0x38 ∷ 0x2c ∷ 0x20 ∷ 0x39 ∷ 0x5d ∷ []

abbrev tape : List ℕ
tape =
    3 ∷ 0 ∷ 1 ∷ 0 ∷ 0 ∷ 11 ∷ 1 ∷ 2 ∷ 5 ∷ 0 ∷ 7 ∷ 2 ∷ 3 ∷ 0 ∷ 0 ∷ 11 ∷ 4 ∷ 5 ∷ 5 ∷ 1 ∷ 7 ∷ 5 ∷ 6 ∷ 0 ∷ 0 ∷ 11 ∷ 7 ∷ 8 ∷ 5 ∷ 1 ∷ 4 ∷ 8 ∷ 9 ∷ 0 ∷ 0 ∷ 1 ∷ 2 ∷ 3 ∷ 4 ∷ 5 ∷ []

holds : reading_of list ≡ entries_of 7 tape ▸ complete
unfolding place tokens_from ron_token gap_of gap_from item_of comment_of behind_slash blank_width blank1 blank2 blank3 within run run2 token_of shape_of mark_kind starts_number behind_b behind_r number_of float_ahead float_goes float_char digit hex_digit int_char letter any_of numeral_of front_of sign_of prefix_of hex_of digits_from run_of turn_of first_fit limit_at suffix_of suffix_word width_at first_of ident_of starts_with entries_of
holds = refl

-- ---- the new text

abbrev changed : List ℕ
changed = 0x5b ∷ 0x37 ∷ 0x2c ∷ 0x20 ∷ 0x2f ∷ 0x2a ∷ 0x38 ∷ 0x2c ∷ 0x2a ∷ 0x2f ∷ 0x20 ∷ 0x39 ∷ 0x5d ∷ []

-- five entries, three of them kept before and one behind
pub worked : repair_answer_of tape 7 9 4 6 changed ≡ Ok (record { count = 5; before = 3; behind = 1 })
unfolding repair_answer_of repair_fits cut_fits leading joins scan_of in_order in_order_from orderly last_quiet quiet_byte end_of place tokens_from ron_token gap_of gap_from item_of comment_of behind_slash block_end block_from mark_of blank_width blank1 blank2 blank3 within run run2 token_of shape_of mark_kind starts_number behind_b behind_r number_of float_ahead float_goes float_char digit hex_digit int_char letter any_of numeral_of front_of sign_of prefix_of hex_of digits_from run_of turn_of first_fit limit_at suffix_of suffix_word width_at first_of ident_of starts_with entries_of
worked = refl

-- zeros up to the old count, and beyond it what stood there
pub worked_tape : repair_tape_of tape 7 9 4 6 changed ≡
    3 ∷ 0 ∷ 1 ∷ 0 ∷ 0 ∷ 11 ∷ 1 ∷ 2 ∷ 5 ∷ 0 ∷ 7 ∷ 2 ∷ 3 ∷ 0 ∷ 0 ∷ 11 ∷ 11 ∷ 12 ∷ 5 ∷ 8 ∷ 4 ∷ 12 ∷ 13 ∷ 0 ∷ 0 ∷ 0 ∷ 0 ∷ 0 ∷ 0 ∷ 0 ∷ 0 ∷ 0 ∷ 0 ∷ 0 ∷ 0 ∷ 1 ∷ 2 ∷ 3 ∷ 4 ∷ 5 ∷ []
unfolding repair_tape_of repair_answer_of cleared laid flat entries repair_fits cut_fits leading joins scan_of in_order in_order_from orderly last_quiet quiet_byte end_of place tokens_from ron_token gap_of gap_from item_of comment_of behind_slash block_end block_from mark_of blank_width blank1 blank2 blank3 within run run2 token_of shape_of mark_kind starts_number behind_b behind_r number_of float_ahead float_goes float_char digit hex_digit int_char letter any_of numeral_of front_of sign_of prefix_of hex_of digits_from run_of turn_of first_fit limit_at suffix_of suffix_word width_at first_of ident_of starts_with entries_of
worked_tape = refl

-- ---- an empty cut at 3, new bytes `/*`: 4 at 11

abbrev opened : List ℕ
opened = 0x5b ∷ 0x37 ∷ 0x2c ∷ 0x2f ∷ 0x2a ∷ 0x20 ∷ 0x38 ∷ 0x2c ∷ 0x20 ∷ 0x39 ∷ 0x5d ∷ []

pub worked_open : repair_answer_of tape 7 9 3 3 opened ≡ Err (unclosed_block_comment 11)
unfolding repair_answer_of repair_fits cut_fits leading joins scan_of in_order in_order_from orderly last_quiet quiet_byte end_of place tokens_from ron_token gap_of gap_from item_of comment_of behind_slash block_end block_from mark_of blank_width blank1 blank2 blank3 within run run2 token_of shape_of mark_kind starts_number behind_b behind_r number_of float_ahead float_goes float_char digit hex_digit int_char letter any_of numeral_of front_of sign_of prefix_of hex_of digits_from run_of turn_of first_fit limit_at suffix_of suffix_word width_at first_of ident_of starts_with entries_of
worked_open = refl

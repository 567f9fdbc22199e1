-- Worked contents, computed from the definitions. Assumes nothing.
use Rattle.std.proofs.Common.{Ok, Err}
use Prim.Native.Nat.{ℕ}
use mathlib.Core.List.{List, [], ◌∷◌}
use mathlib.Core.Path.{◌≡◌, refl}
use Rattle.text.specs.Refusals.{holds_escape, no_room, not_in_order, other_kind, unfit}
use Rattle.text.specs.Judged.{judged_of, place_fits}
use Rattle.text.specs.Classes.{continuation_blank, within}
use Rattle.text.specs.Runs.{run}
use Rattle.text.specs.Utf8.{behind_four, behind_three, char_len, code_of, code_of4, encode, scalar, second_byte, utf8_from, utf8_of, width_of}
use Rattle.rows.specs.Rows.{entry_at}
use Rattle.escapes.specs.Escapes.{close_of, digits_of, escape_of, hex_escape, hex_of, more_bytes, next_byte, second_digit, simple_of, two_digits, unicode_escape}
use Rattle.strings.specs.Pieces.{behind_backslash, body_from, body_of, decoded_of, line_end, piece_of, plain, unquoted}
use Rattle.strings.specs.Quoted.{measured, quoted_of}
use Rattle.strings.specs.Strings.{string_decoded, string_of}
use Rattle.entries.specs.Named.{by_kind, inside_of, named_of}
use Rattle.entries.specs.declared.view.Span.{Span}
use Rattle.sarridok.specs.Contents.{contents_of, part_of, decoded_answer, decoded_out}

abbrev span : ℕ → ℕ → Span
span a b = record { start = a; end = b }

-- `["a"]` and its tape
abbrev list : List ℕ
list = 0x5B ∷ 0x22 ∷ 0x61 ∷ 0x22 ∷ 0x5D ∷ []

abbrev tape : List ℕ
tape = 3 ∷ 0 ∷ 1 ∷ 0 ∷ 0 ∷ 14 ∷ 1 ∷ 4 ∷ 1 ∷ 0 ∷ 4 ∷ 4 ∷ 5 ∷ 0 ∷ 0 ∷ []

-- its second entry has the contents 2 to 3, which are `a`
plain-string : contents_of list tape 3 1 ≡ Ok (span 2 3)
unfolding contents_of judged_of utf8_of utf8_from char_len width_of behind_three behind_four second_byte within place_fits named_of inside_of by_kind entry_at string_of quoted_of unquoted run measured body_of body_from piece_of plain
plain-string = refl

its_part : part_of list (Ok (span 2 3)) ≡ 0x61 ∷ []
its_part = refl

-- its first is 27
bracket : contents_of list tape 3 0 ≡ Err other_kind
unfolding contents_of judged_of utf8_of utf8_from char_len width_of behind_three behind_four second_byte within place_fits named_of inside_of by_kind entry_at
bracket = refl

-- `"\xC3\xA9"` and its tape, with a gap that is no distance: it is not asked
abbrev escaped : List ℕ
escaped = 0x22 ∷ 0x5C ∷ 0x78 ∷ 0x43 ∷ 0x33 ∷ 0x5C ∷ 0x78 ∷ 0x41 ∷ 0x39 ∷ 0x22 ∷ []

abbrev row : List ℕ
row = 14 ∷ 0 ∷ 10 ∷ 2 ∷ 7 ∷ []

-- its contents hold an escape
held : contents_of escaped row 1 0 ≡ Err holds_escape
unfolding contents_of judged_of utf8_of utf8_from char_len width_of behind_three behind_four second_byte within place_fits named_of inside_of by_kind entry_at string_of quoted_of unquoted run measured body_of body_from piece_of behind_backslash line_end continuation_blank plain escape_of hex_escape two_digits second_digit next_byte more_bytes unicode_escape digits_of close_of hex_of simple_of code_of code_of4 scalar encode
held = refl

-- it decodes to C3 A9, and the third byte of the buffer stays
two_bytes : decoded_answer escaped row 1 0 3 ≡ Ok 2
unfolding decoded_answer judged_of utf8_of utf8_from char_len width_of behind_three behind_four second_byte within place_fits named_of inside_of by_kind entry_at string_of quoted_of unquoted run measured body_of body_from piece_of behind_backslash line_end continuation_blank plain escape_of hex_escape two_digits second_digit next_byte more_bytes unicode_escape digits_of close_of hex_of simple_of code_of code_of4 scalar encode
two_bytes = refl

written : decoded_out escaped row 1 0 (7 ∷ 8 ∷ 9 ∷ []) ≡ 0xC3 ∷ 0xA9 ∷ 9 ∷ []
unfolding decoded_out string_decoded decoded_of decoded_answer judged_of utf8_of utf8_from char_len width_of behind_three behind_four second_byte within place_fits named_of inside_of by_kind entry_at string_of quoted_of unquoted run measured body_of body_from piece_of behind_backslash line_end continuation_blank plain escape_of hex_escape two_digits second_digit next_byte more_bytes unicode_escape digits_of close_of hex_of simple_of code_of code_of4 scalar encode
written = refl

-- a buffer of one byte is too small, and stays
no-room : decoded_answer escaped row 1 0 1 ≡ Err no_room
unfolding decoded_answer judged_of utf8_of utf8_from char_len width_of behind_three behind_four second_byte within place_fits named_of inside_of by_kind entry_at string_of quoted_of unquoted run measured body_of body_from piece_of behind_backslash line_end continuation_blank plain escape_of hex_escape two_digits second_digit next_byte more_bytes unicode_escape digits_of close_of hex_of simple_of code_of code_of4 scalar encode
no-room = refl

-- over `""`: a start past the end is 28 though the count does not fit; an entry outside the slice is 23; one not below the count is 28
past_the_end : contents_of (0x22 ∷ 0x22 ∷ []) (14 ∷ 3 ∷ 2 ∷ 0 ∷ 0 ∷ []) 2 0 ≡ Err unfit
unfolding contents_of judged_of utf8_of utf8_from char_len width_of behind_three behind_four second_byte within place_fits named_of inside_of by_kind entry_at
past_the_end = refl

outside : contents_of (0x22 ∷ 0x22 ∷ []) (14 ∷ 3 ∷ []) 1 0 ≡ Err not_in_order
unfolding contents_of judged_of utf8_of utf8_from char_len width_of behind_three behind_four second_byte within place_fits named_of inside_of by_kind entry_at
outside = refl

no_entry : contents_of (0x22 ∷ 0x22 ∷ []) [] 0 0 ≡ Err unfit
unfolding contents_of judged_of utf8_of utf8_from char_len width_of behind_three behind_four second_byte within place_fits named_of inside_of by_kind entry_at
no_entry = refl

-- Worked texts, computed from the definitions. Assumes nothing.
use Prim.Native.Nat.{ℕ}
use mathlib.Core.Bool.{Bool, ◌&&◌, true}
use mathlib.Core.List.{List, [], ◌∷◌}
use mathlib.Core.Path.{◌≡◌, refl}
use Rattle.names.proofs.NameStops.{name_stop}
use Rattle.names.specs.Characters.{char_if, chars, chars_from}
use Rattle.names.specs.Classify.{begins_float, missing, named, suffixed, word_of}
use Rattle.names.specs.Identifiers.{identifier_of, name_len, plain_of, raw_of, skip_identifier_of, strict_of}
use Rattle.names.specs.Starts.{begins_raw, begins_string}
use Rattle.names.specs.declared.Identifier.TheVariants.{Missing, Name, RawName}
use Rattle.names.specs.declared.Word.TheVariants.{Float, Plain, Raw, Refused as NotName}
use Rattle.text.specs.Classes.{ascii_first, ascii_next, ascii_raw, digit, ident_first, ident_next, ident_raw, letter, within}
use Rattle.xid.specs.Table.{table}
use Rattle.xid.specs.Xid.{in_rows, xid_continue, xid_start}
use Rattle.text.specs.Refusals.{expected_string, unexpected_char}
use Rattle.text.specs.Utf8.{behind_four, behind_three, char_len, code_of, code_of4, second_byte, width_of}
use Rattle.text.specs.Words.{starts_with}

-- `a`, `_1`, `a.b`, `r`, `bc`, `a` in front of U+0085: a plain name takes no `.` and ends at whitespace
names : (word_of (0x61 ∷ []) ≡ Plain 1)
    × (word_of (0x5f ∷ 0x31 ∷ []) ≡ Plain 2)
    × (word_of (0x61 ∷ 0x2e ∷ 0x62 ∷ []) ≡ Plain 1)
    × (word_of (0x72 ∷ []) ≡ Plain 1)
    × (word_of (0x62 ∷ 0x63 ∷ []) ≡ Plain 2)
    × (word_of (0x61 ∷ 0xc2 ∷ 0x85 ∷ 0x62 ∷ []) ≡ Plain 1)
unfolding word_of named begins_float suffixed missing skip_identifier_of begins_string starts_with begins_raw raw_of plain_of name_len char_if chars chars_from code_of code_of4 char_len width_of behind_three behind_four second_byte within ident_first ident_next ident_raw ascii_first ascii_next ascii_raw xid_start xid_continue in_rows table letter digit
names = (refl, refl, refl, refl, refl, refl)

-- `r#a`, `r#1`, `r#.`, `r#a.b-c`: a raw name takes `. + -`, and its `r#` counts
raw_names : (word_of (0x72 ∷ 0x23 ∷ 0x61 ∷ []) ≡ Raw 3)
    × (word_of (0x72 ∷ 0x23 ∷ 0x31 ∷ []) ≡ Raw 3)
    × (word_of (0x72 ∷ 0x23 ∷ 0x2e ∷ []) ≡ Raw 3)
    × (word_of (0x72 ∷ 0x23 ∷ 0x61 ∷ 0x2e ∷ 0x62 ∷ 0x2d ∷ 0x63 ∷ []) ≡ Raw 7)
unfolding word_of named begins_float suffixed missing skip_identifier_of begins_string starts_with begins_raw raw_of plain_of name_len char_if chars chars_from code_of code_of4 char_len width_of behind_three behind_four second_byte within ident_first ident_next ident_raw ascii_first ascii_next ascii_raw letter digit
raw_names = (refl, refl, refl, refl)

-- `inf`, `NaN`, `inff32`, `NaNf64`
floats : (word_of (0x69 ∷ 0x6e ∷ 0x66 ∷ []) ≡ Float 3 0)
    × (word_of (0x4e ∷ 0x61 ∷ 0x4e ∷ []) ≡ Float 3 0)
    × (word_of (0x69 ∷ 0x6e ∷ 0x66 ∷ 0x66 ∷ 0x33 ∷ 0x32 ∷ []) ≡ Float 6 32)
    × (word_of (0x4e ∷ 0x61 ∷ 0x4e ∷ 0x66 ∷ 0x36 ∷ 0x34 ∷ []) ≡ Float 6 64)
unfolding word_of named begins_float suffixed missing skip_identifier_of begins_string starts_with begins_raw raw_of plain_of name_len char_if chars chars_from code_of code_of4 char_len width_of behind_three behind_four second_byte within ident_first ident_next ident_raw ascii_first ascii_next ascii_raw letter digit
floats = (refl, refl, refl, refl)

-- `inf_`, `infx`, `NaNf32x`, `infinity`, `nan`, `inff16`, `r#inf`
no_floats : (word_of (0x69 ∷ 0x6e ∷ 0x66 ∷ 0x5f ∷ []) ≡ Plain 4)
    × (word_of (0x69 ∷ 0x6e ∷ 0x66 ∷ 0x78 ∷ []) ≡ Plain 4)
    × (word_of (0x4e ∷ 0x61 ∷ 0x4e ∷ 0x66 ∷ 0x33 ∷ 0x32 ∷ 0x78 ∷ []) ≡ Plain 7)
    × (word_of (0x69 ∷ 0x6e ∷ 0x66 ∷ 0x69 ∷ 0x6e ∷ 0x69 ∷ 0x74 ∷ 0x79 ∷ []) ≡ Plain 8)
    × (word_of (0x6e ∷ 0x61 ∷ 0x6e ∷ []) ≡ Plain 3)
    × (word_of (0x69 ∷ 0x6e ∷ 0x66 ∷ 0x66 ∷ 0x31 ∷ 0x36 ∷ []) ≡ Plain 6)
    × (word_of (0x72 ∷ 0x23 ∷ 0x69 ∷ 0x6e ∷ 0x66 ∷ []) ≡ Raw 5)
unfolding word_of named begins_float suffixed missing skip_identifier_of begins_string starts_with begins_raw raw_of plain_of name_len char_if chars chars_from code_of code_of4 char_len width_of behind_three behind_four second_byte within ident_first ident_next ident_raw ascii_first ascii_next ascii_raw letter digit
no_floats = (refl, refl, refl, refl, refl, refl, refl)

-- `é`, `aé`, `bé`, `r#é`, `r#a.é`, `infé`, `NaNf32é`, and `×`, which starts nothing
accents : (word_of (0xc3 ∷ 0xa9 ∷ []) ≡ Plain 2)
    × (word_of (0x61 ∷ 0xc3 ∷ 0xa9 ∷ []) ≡ Plain 3)
    × (word_of (0x62 ∷ 0xc3 ∷ 0xa9 ∷ []) ≡ Plain 3)
    × (word_of (0x72 ∷ 0x23 ∷ 0xc3 ∷ 0xa9 ∷ []) ≡ Raw 4)
    × (word_of (0x72 ∷ 0x23 ∷ 0x61 ∷ 0x2e ∷ 0xc3 ∷ 0xa9 ∷ []) ≡ Raw 6)
    × (word_of (0x69 ∷ 0x6e ∷ 0x66 ∷ 0xc3 ∷ 0xa9 ∷ []) ≡ Plain 5)
    × (word_of (0x4e ∷ 0x61 ∷ 0x4e ∷ 0x66 ∷ 0x33 ∷ 0x32 ∷ 0xc3 ∷ 0xa9 ∷ []) ≡ Plain 8)
    × (word_of (0xc3 ∷ 0x97 ∷ []) ≡ NotName (unexpected_char 0))
unfolding word_of named begins_float suffixed missing skip_identifier_of begins_string starts_with begins_raw raw_of plain_of name_len char_if chars chars_from code_of code_of4 char_len width_of behind_three behind_four second_byte within ident_first ident_next ident_raw ascii_first ascii_next ascii_raw xid_start xid_continue in_rows table letter digit
accents = (refl, refl, refl, refl, refl, refl, refl, refl)

-- `r#`, `r# a`, `r#(`: 16 two bytes on; `*`, `;`: 5 there
no_names : (word_of (0x72 ∷ 0x23 ∷ []) ≡ NotName (expected_string 2))
    × (word_of (0x72 ∷ 0x23 ∷ 0x20 ∷ 0x61 ∷ []) ≡ NotName (expected_string 2))
    × (word_of (0x72 ∷ 0x23 ∷ 0x28 ∷ []) ≡ NotName (expected_string 2))
    × (word_of (0x2a ∷ []) ≡ NotName (unexpected_char 0))
    × (word_of (0x3b ∷ []) ≡ NotName (unexpected_char 0))
unfolding word_of named begins_float suffixed missing skip_identifier_of begins_string starts_with begins_raw raw_of plain_of name_len char_if chars chars_from code_of code_of4 char_len width_of behind_three behind_four second_byte within ident_first ident_next ident_raw ascii_first ascii_next ascii_raw letter digit
no_names = (refl, refl, refl, refl, refl)

-- what the list of an attribute asks for: `a`, `r#a`, `a.`, `5`, `b"a"`, no byte, `a.é`, `5é`
strict : (identifier_of (0x61 ∷ []) ≡ Name 1)
    × (identifier_of (0x72 ∷ 0x23 ∷ 0x61 ∷ []) ≡ RawName 3)
    × (identifier_of (0x61 ∷ 0x2e ∷ []) ≡ Missing)
    × (identifier_of (0x35 ∷ []) ≡ Missing)
    × (identifier_of (0x62 ∷ 0x22 ∷ 0x61 ∷ 0x22 ∷ []) ≡ Missing)
    × (identifier_of [] ≡ Missing)
    × (identifier_of (0x61 ∷ 0x2e ∷ 0xc3 ∷ 0xa9 ∷ []) ≡ Missing)
    × (identifier_of (0x35 ∷ 0xc3 ∷ 0xa9 ∷ []) ≡ Missing)
unfolding identifier_of strict_of begins_string starts_with begins_raw raw_of name_len char_if chars chars_from code_of code_of4 char_len width_of behind_three behind_four second_byte within ident_first ident_next ident_raw ascii_first ascii_next ascii_raw xid_start xid_continue in_rows table letter digit
strict = (refl, refl, refl, refl, refl, refl, refl, refl)

-- what a struct's kind asks for: `a`, `inf`, `b'a'`, `r#"a"#`, `br#`, `5`, `aé`
skipped : (skip_identifier_of (0x61 ∷ []) ≡ Name 1)
    × (skip_identifier_of (0x69 ∷ 0x6e ∷ 0x66 ∷ []) ≡ Name 3)
    × (skip_identifier_of (0x62 ∷ 0x27 ∷ 0x61 ∷ 0x27 ∷ []) ≡ Missing)
    × (skip_identifier_of (0x72 ∷ 0x23 ∷ 0x22 ∷ 0x61 ∷ 0x22 ∷ 0x23 ∷ []) ≡ Missing)
    × (skip_identifier_of (0x62 ∷ 0x72 ∷ 0x23 ∷ []) ≡ Missing)
    × (skip_identifier_of (0x35 ∷ []) ≡ Missing)
    × (skip_identifier_of (0x61 ∷ 0xc3 ∷ 0xa9 ∷ []) ≡ Name 3)
unfolding skip_identifier_of begins_string starts_with begins_raw raw_of plain_of name_len char_if chars chars_from code_of code_of4 char_len width_of behind_three behind_four second_byte within ident_first ident_next ident_raw ascii_first ascii_next ascii_raw xid_start xid_continue in_rows table letter digit
skipped = (refl, refl, refl, refl, refl, refl, refl)

abbrev all_stop : List ℕ → Bool
all_stop [] = true
all_stop (c ∷ l) = name_stop c && all_stop l

-- quiet bytes and `/` stop a name
stops : all_stop (0x2f ∷ 0x20 ∷ 0x09 ∷ 0x0a ∷ 0x0d ∷ 0x2c ∷ 0x3a ∷ 0x28 ∷ 0x29 ∷ 0x5b ∷ 0x5d ∷ 0x7b ∷ 0x7d ∷ []) ≡ true
unfolding name_stop ascii_raw ascii_next letter digit within
stops = refl

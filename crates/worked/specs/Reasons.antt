-- The worked texts of change request 1, each of the eight reasons among them, and a reason handed on by each call.
use Rattle.std.specs.Prelude.{Err, List, [], ◌∷◌}
use Rattle.integers.specs.declared.width.Width.TheVariants.{U8}
use Rattle.structs.specs.declared.kinds.NewtypeMode.TheVariants.{NoParensMeanUnit}
use Rattle.structs.specs.declared.kinds.TupleMode.TheVariants.{DifferentiateNewtype}
use Rattle.text.specs.Refusals.{invalid_escape}
use Rattle.text.specs.declared.reason.EscapeReason.TheVariants.{DigitNotHex, UnknownLetter, NotByteEscaped, MissingOpenBrace, NoDigits, NoClosingBrace, NotACharacter, UnicodeInByteLiteral}
use Rattle.worked.specs.Texts.{Claim}
use Rattle.worked.specs.Texts.Claim.{reads, types, decodes, repairs, struct_is}

-- The list: read `"\xg"`, `"\q"`, `"\xC3"`, `"\u41"`, `"\u{}"`, `"\u{1234567}"`, `"\u{D800}"` and `b'\u{41}'`; the last typed u8; `"\q"` decoded; the struct
-- kind of `("\q")`; `["a"]` with the byte from 2 to 3 replaced by `\q`. What was lent stays.
abbrev pub reason_texts : List Claim
reason_texts =
    reads (0x22 ∷ 0x5c ∷ 0x78 ∷ 0x67 ∷ 0x22 ∷ []) (77 ∷ []) (Err (invalid_escape DigitNotHex 4)) (77 ∷ [])
    ∷ reads (0x22 ∷ 0x5c ∷ 0x71 ∷ 0x22 ∷ []) (77 ∷ []) (Err (invalid_escape UnknownLetter 3)) (77 ∷ [])
    ∷ reads (0x22 ∷ 0x5c ∷ 0x78 ∷ 0x43 ∷ 0x33 ∷ 0x22 ∷ []) (77 ∷ []) (Err (invalid_escape NotByteEscaped 5)) (77 ∷ [])
    ∷ reads (0x22 ∷ 0x5c ∷ 0x75 ∷ 0x34 ∷ 0x31 ∷ 0x22 ∷ []) (77 ∷ []) (Err (invalid_escape MissingOpenBrace 3)) (77 ∷ [])
    ∷ reads (0x22 ∷ 0x5c ∷ 0x75 ∷ 0x7b ∷ 0x7d ∷ 0x22 ∷ []) (77 ∷ []) (Err (invalid_escape NoDigits 4)) (77 ∷ [])
    ∷ reads (0x22 ∷ 0x5c ∷ 0x75 ∷ 0x7b ∷ 0x31 ∷ 0x32 ∷ 0x33 ∷ 0x34 ∷ 0x35 ∷ 0x36 ∷ 0x37 ∷ 0x7d ∷ 0x22 ∷ []) (77 ∷ []) (Err (invalid_escape NoClosingBrace 10)) (77 ∷ [])
    ∷ reads (0x22 ∷ 0x5c ∷ 0x75 ∷ 0x7b ∷ 0x44 ∷ 0x38 ∷ 0x30 ∷ 0x30 ∷ 0x7d ∷ 0x22 ∷ []) (77 ∷ []) (Err (invalid_escape NotACharacter 9)) (77 ∷ [])
    ∷ reads (0x62 ∷ 0x27 ∷ 0x5c ∷ 0x75 ∷ 0x7b ∷ 0x34 ∷ 0x31 ∷ 0x7d ∷ 0x27 ∷ []) (77 ∷ []) (Err (invalid_escape UnicodeInByteLiteral 8)) (77 ∷ [])
    ∷ types (0x62 ∷ 0x27 ∷ 0x5c ∷ 0x75 ∷ 0x7b ∷ 0x34 ∷ 0x31 ∷ 0x7d ∷ 0x27 ∷ []) U8 (Err (invalid_escape UnicodeInByteLiteral 8))
    ∷ decodes (0x22 ∷ 0x5c ∷ 0x71 ∷ 0x22 ∷ []) (14 ∷ 0 ∷ 4 ∷ 1 ∷ 0 ∷ []) (77 ∷ []) (Err (invalid_escape UnknownLetter 3)) (77 ∷ [])
    ∷ struct_is (0x28 ∷ 0x22 ∷ 0x5c ∷ 0x71 ∷ 0x22 ∷ 0x29 ∷ []) NoParensMeanUnit DifferentiateNewtype (Err (invalid_escape UnknownLetter 4))
    ∷ repairs (3 ∷ 0 ∷ 1 ∷ 0 ∷ 0 ∷ 14 ∷ 1 ∷ 4 ∷ 1 ∷ 0 ∷ 4 ∷ 4 ∷ 5 ∷ 0 ∷ 0 ∷ 77 ∷ []) 3 5 2 3 (0x5b ∷ 0x22 ∷ 0x5c ∷ 0x71 ∷ 0x22 ∷ 0x5d ∷ []) (Err (invalid_escape UnknownLetter 4))
    (3 ∷ 0 ∷ 1 ∷ 0 ∷ 0 ∷ 14 ∷ 1 ∷ 4 ∷ 1 ∷ 0 ∷ 4 ∷ 4 ∷ 5 ∷ 0 ∷ 0 ∷ 77 ∷ [])
    ∷ []

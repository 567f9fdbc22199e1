-- The worked texts of change request 7: a list of integers read in one call, and what refuses it first.
use Rattle.std.specs.Prelude.{Err, List, Ok, [], ◌∷◌}
use Rattle.text.specs.Refusals.{refusal, invalid_escape}
use Rattle.text.specs.declared.reason.EscapeReason.TheVariants.{DigitNotHex}
use Rattle.worked.specs.Texts.{Claim}
use Rattle.worked.specs.Texts.Claim.{lists}

-- The list: the last, second, first, third and second integer of `300 -5 -0 b'a'`; then, refused, the float of `7 1.5` as the second item; the byte literal of
-- `7 b'\x4'`, whose escape has one digit, as the third; two of `7 8` with room for one code; entry 2, which is none of two, with room for none; and two entries
-- on a tape of one. Buffers have what stood there behind what is written, and on a refusal all of it.
abbrev pub list_texts : List Claim
list_texts =
    lists (0x33 ∷ 0x30 ∷ 0x30 ∷ 0x20 ∷ 0x2d ∷ 0x35 ∷ 0x20 ∷ 0x2d ∷ 0x30 ∷ 0x20 ∷ 0x62 ∷ 0x27 ∷ 0x61 ∷ 0x27 ∷ []) (11 ∷ 0 ∷ 3 ∷ 6 ∷ 0 ∷ 11 ∷ 4 ∷ 6 ∷ 1 ∷ 1 ∷ 11 ∷ 7 ∷ 9 ∷ 1 ∷ 1 ∷ 11 ∷ 10 ∷ 14 ∷ 5 ∷ 1 ∷ []) 4 (3 ∷ 1 ∷ 0 ∷ 2 ∷ 1 ∷ [])
    (0 ∷ 0 ∷ 0 ∷ 0 ∷ 0 ∷ 77 ∷ []) (0 ∷ 0 ∷ 0 ∷ 0 ∷ 0 ∷ 77 ∷ []) (Ok tt) (97 ∷ 5 ∷ 300 ∷ 0 ∷ 5 ∷ 77 ∷ []) (5 ∷ 17 ∷ 6 ∷ 1 ∷ 17 ∷ 77 ∷ [])
    ∷ lists (0x37 ∷ 0x20 ∷ 0x31 ∷ 0x2e ∷ 0x35 ∷ []) (11 ∷ 0 ∷ 1 ∷ 5 ∷ 0 ∷ 12 ∷ 2 ∷ 5 ∷ 0 ∷ 1 ∷ []) 2 (0 ∷ 1 ∷ [])
    (8 ∷ 8 ∷ 77 ∷ []) (8 ∷ 8 ∷ 77 ∷ []) (Err (refusal 27 1)) (8 ∷ 8 ∷ 77 ∷ []) (8 ∷ 8 ∷ 77 ∷ [])
    ∷ lists (0x37 ∷ 0x20 ∷ 0x62 ∷ 0x27 ∷ 0x5c ∷ 0x78 ∷ 0x34 ∷ 0x27 ∷ []) (11 ∷ 0 ∷ 1 ∷ 5 ∷ 0 ∷ 11 ∷ 2 ∷ 8 ∷ 5 ∷ 1 ∷ []) 2 (0 ∷ 0 ∷ 1 ∷ [])
    (8 ∷ 8 ∷ 8 ∷ []) (8 ∷ 8 ∷ 8 ∷ []) (Err (invalid_escape DigitNotHex 2)) (8 ∷ 8 ∷ 8 ∷ []) (8 ∷ 8 ∷ 8 ∷ [])
    ∷ lists (0x37 ∷ 0x20 ∷ 0x38 ∷ []) (11 ∷ 0 ∷ 1 ∷ 5 ∷ 0 ∷ 11 ∷ 2 ∷ 3 ∷ 5 ∷ 1 ∷ []) 2 (0 ∷ 1 ∷ [])
    (9 ∷ 9 ∷ []) (9 ∷ []) (Err (refusal 22 0)) (9 ∷ 9 ∷ []) (9 ∷ [])
    ∷ lists (0x37 ∷ 0x20 ∷ 0x38 ∷ []) (11 ∷ 0 ∷ 1 ∷ 5 ∷ 0 ∷ 11 ∷ 2 ∷ 3 ∷ 5 ∷ 1 ∷ []) 2 (0 ∷ 2 ∷ [])
    (9 ∷ 9 ∷ []) [] (Err (refusal 28 1)) (9 ∷ 9 ∷ []) []
    ∷ lists (0x37 ∷ []) (11 ∷ 0 ∷ 1 ∷ 5 ∷ 0 ∷ []) 2 (5 ∷ [])
    (9 ∷ []) (9 ∷ []) (Err (refusal 23 0)) (9 ∷ []) (9 ∷ [])
    ∷ []

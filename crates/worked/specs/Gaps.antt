-- The worked texts of change request 6: what stands before an entry, and what is kept behind where it changes.
use Rattle.std.specs.Prelude.{Err, List, Ok, [], ◌∷◌}
use Rattle.text.specs.Refusals.{refusal}
use Rattle.worked.specs.Texts.{Claim}
use Rattle.worked.specs.Texts.Claim.{reads, repairs}

-- The list: read `//ab`, LF, `7`, and `7` into four numbers; `a b` with a blank put in at 2, with nothing put in, and with a gap of 2 on its tape; `1` with a
-- blank put in at 0; `ab c` with its first byte cut out.
abbrev pub gap_texts : List Claim
gap_texts =
    reads (0x2f ∷ 0x2f ∷ 0x61 ∷ 0x62 ∷ 0x0a ∷ 0x37 ∷ []) (0 ∷ 0 ∷ 0 ∷ 0 ∷ 0 ∷ 77 ∷ []) (Ok 1) (11 ∷ 5 ∷ 6 ∷ 5 ∷ 5 ∷ 77 ∷ [])
    ∷ reads (0x37 ∷ []) (0 ∷ 0 ∷ 0 ∷ 0 ∷ []) (Err (refusal 22 0)) (0 ∷ 0 ∷ 0 ∷ 0 ∷ [])
    ∷ repairs (9 ∷ 0 ∷ 1 ∷ 0 ∷ 0 ∷ 9 ∷ 2 ∷ 3 ∷ 0 ∷ 1 ∷ 77 ∷ []) 2 3 2 2 (0x61 ∷ 0x20 ∷ 0x20 ∷ 0x62 ∷ []) (Ok (record { count = 2; before = 1; behind = 0 })) (9 ∷ 0 ∷ 1 ∷ 0 ∷ 0 ∷ 9 ∷ 3 ∷ 4 ∷ 0 ∷ 2 ∷ 77 ∷ [])
    ∷ repairs (9 ∷ 0 ∷ 1 ∷ 0 ∷ 0 ∷ 9 ∷ 2 ∷ 3 ∷ 0 ∷ 1 ∷ 77 ∷ []) 2 3 2 2 (0x61 ∷ 0x20 ∷ 0x62 ∷ []) (Ok (record { count = 2; before = 1; behind = 1 })) (9 ∷ 0 ∷ 1 ∷ 0 ∷ 0 ∷ 9 ∷ 2 ∷ 3 ∷ 0 ∷ 1 ∷ 77 ∷ [])
    ∷ repairs (9 ∷ 0 ∷ 1 ∷ 0 ∷ 0 ∷ 9 ∷ 2 ∷ 3 ∷ 0 ∷ 2 ∷ 77 ∷ []) 2 3 2 2 (0x61 ∷ 0x20 ∷ 0x62 ∷ []) (Err (refusal 23 0)) (9 ∷ 0 ∷ 1 ∷ 0 ∷ 0 ∷ 9 ∷ 2 ∷ 3 ∷ 0 ∷ 2 ∷ 77 ∷ [])
    ∷ repairs (11 ∷ 0 ∷ 1 ∷ 5 ∷ 0 ∷ 77 ∷ []) 1 1 0 0 (0x20 ∷ 0x31 ∷ []) (Ok (record { count = 1; before = 0; behind = 0 })) (11 ∷ 1 ∷ 2 ∷ 5 ∷ 1 ∷ 77 ∷ [])
    ∷ repairs (9 ∷ 0 ∷ 2 ∷ 0 ∷ 0 ∷ 9 ∷ 3 ∷ 4 ∷ 0 ∷ 1 ∷ 77 ∷ []) 2 4 0 1 (0x62 ∷ 0x20 ∷ 0x63 ∷ []) (Ok (record { count = 2; before = 0; behind = 1 })) (9 ∷ 0 ∷ 1 ∷ 0 ∷ 0 ∷ 9 ∷ 2 ∷ 3 ∷ 0 ∷ 1 ∷ 77 ∷ [])
    ∷ []

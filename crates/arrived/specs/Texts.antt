-- Worked texts of the rule (document 02, change request 3): for each text, in the order of its bytes, what each byte gives: the byte's number, and an entry's kind,
-- start and end, or a refusal's number and place.
use Rattle.std.specs.Prelude.{ℕ, ◌+◌, List, [], ◌∷◌, ◌++◌, ◌≡◌}
use Rattle.rows.specs.declared.Entry.{Entry}
use Rattle.arriving.specs.Arrivals.{Coming, going, halted, shut, step}
use Rattle.settled.specs.Settled.{ron_reader}
use Rattle.arrived.specs.Ruled.{rule_bar}

-- The entries that the byte n gives.
unfoldable pub given : ℕ → List Entry → List (List ℕ)
given n [] = []
given n (e ∷ es) = (n ∷ e.kind ∷ e.start ∷ e.end ∷ []) ∷ given n es

-- Behind the byte n: the refusal, with which it ends, or what the bytes behind it give.
abbrev pub goes_to : Coming → ℕ → List (List ℕ) → List (List ℕ)
goes_to (going at rest) n more = more
goes_to (shut d) n more = (n ∷ d.number ∷ d.place ∷ []) ∷ []
goes_to (halted d) n more = (n ∷ d.number ∷ d.place ∷ []) ∷ []

-- What the bytes give from the byte n on.
unfoldable pub told_from : List ℕ → Coming → ℕ → List (List ℕ)
told_from [] c n = []
told_from (b ∷ s) c n = let g = step ron_reader rule_bar c b in given n g.entries ++ goes_to g.next n (told_from s g.next (n + 1))

-- What the bytes of a text give.
abbrev pub told : List ℕ → List (List ℕ)
told text = told_from text (going 0 []) 0

-- A text and what its bytes give.
pub record Row : Type 0 where
  pub text : List ℕ
  pub gives : List (List ℕ)

-- One row.
abbrev pub row : List ℕ → List (List ℕ) → Row
row text gives = record { text = text; gives = gives }

-- Every row holds.
abbrev pub AllHold : List Row → Type 0
AllHold [] = Unit {0}
AllHold (r ∷ rs) = (told r.text ≡ r.gives) × AllHold rs

-- The texts.
abbrev pub texts : List Row
texts =
    -- a lock with one field
    row (0x4c ∷ 0x6f ∷ 0x63 ∷ 0x6b ∷ 0x28 ∷ 0x69 ∷ 0x64 ∷ 0x3a ∷ 0x20 ∷ 0x37 ∷ 0x29 ∷ []) ((4 ∷ 9 ∷ 0 ∷ 4 ∷ []) ∷ (4 ∷ 1 ∷ 4 ∷ 5 ∷ []) ∷ (7 ∷ 9 ∷ 5 ∷ 7 ∷ []) ∷ (7 ∷ 8 ∷ 7 ∷ 8 ∷ []) ∷ (10 ∷ 11 ∷ 9 ∷ 10 ∷ []) ∷ (10 ∷ 2 ∷ 10 ∷ 11 ∷ []) ∷ [])
    -- a name, and one that the end gives
    ∷ row (0x61 ∷ 0x20 ∷ 0x62 ∷ []) ((1 ∷ 9 ∷ 0 ∷ 1 ∷ []) ∷ [])
    -- the space in the string decides the name
    ∷ row (0x61 ∷ 0x22 ∷ 0x78 ∷ 0x20 ∷ 0x79 ∷ 0x22 ∷ []) ((3 ∷ 9 ∷ 0 ∷ 1 ∷ []) ∷ (5 ∷ 14 ∷ 1 ∷ 6 ∷ []) ∷ [])
    -- a char, and a byte literal
    ∷ row (0x27 ∷ 0x61 ∷ 0x27 ∷ 0x62 ∷ 0x27 ∷ 0x63 ∷ 0x27 ∷ []) ((2 ∷ 13 ∷ 0 ∷ 3 ∷ []) ∷ (6 ∷ 11 ∷ 3 ∷ 7 ∷ []) ∷ [])
    -- U+0085 is whitespace, and decides nothing
    ∷ row (0x61 ∷ 0xc2 ∷ 0x85 ∷ 0x62 ∷ 0xc2 ∷ 0x85 ∷ 0x63 ∷ 0x20 ∷ []) ((7 ∷ 9 ∷ 0 ∷ 1 ∷ []) ∷ (7 ∷ 9 ∷ 3 ∷ 4 ∷ []) ∷ (7 ∷ 9 ∷ 6 ∷ 7 ∷ []) ∷ [])
    -- a raw string with hashes waits
    ∷ row (0x72 ∷ 0x23 ∷ 0x22 ∷ 0x61 ∷ 0x22 ∷ 0x23 ∷ 0x20 ∷ []) ((6 ∷ 14 ∷ 0 ∷ 6 ∷ []) ∷ [])
    -- one without does not
    ∷ row (0x72 ∷ 0x22 ∷ 0x61 ∷ 0x22 ∷ []) ((3 ∷ 14 ∷ 0 ∷ 4 ∷ []) ∷ [])
    -- a number runs into a name
    ∷ row (0x33 ∷ 0x30 ∷ 0x30 ∷ 0x61 ∷ 0x2c ∷ []) ((4 ∷ 12 ∷ 0 ∷ 3 ∷ []) ∷ (4 ∷ 9 ∷ 3 ∷ 4 ∷ []) ∷ (4 ∷ 7 ∷ 4 ∷ 5 ∷ []) ∷ [])
    -- and one that does not fit its width is refused
    ∷ row (0x33 ∷ 0x30 ∷ 0x30 ∷ 0x61 ∷ 0x69 ∷ 0x38 ∷ 0x20 ∷ []) ((6 ∷ 10 ∷ 6 ∷ []) ∷ [])
    -- an escape that is none
    ∷ row (0x22 ∷ 0x5c ∷ 0x71 ∷ 0x22 ∷ []) ((3 ∷ 13 ∷ 3 ∷ []) ∷ [])
    -- a char of two letters
    ∷ row (0x27 ∷ 0x61 ∷ 0x62 ∷ 0x27 ∷ []) ((3 ∷ 14 ∷ 2 ∷ []) ∷ [])
    -- no token starts so
    ∷ row (0x2a ∷ 0x61 ∷ []) ((0 ∷ 5 ∷ 0 ∷ []) ∷ [])
    -- nor so, behind a name
    ∷ row (0x61 ∷ 0x2a ∷ []) ((1 ∷ 9 ∷ 0 ∷ 1 ∷ []) ∷ (1 ∷ 5 ∷ 1 ∷ []) ∷ [])
    -- a character above U+007F with which no token starts
    ∷ row (0xe2 ∷ 0x82 ∷ 0xac ∷ 0x61 ∷ []) ((2 ∷ 5 ∷ 0 ∷ []) ∷ [])
    -- and behind a name
    ∷ row (0x61 ∷ 0xe2 ∷ 0x82 ∷ 0xac ∷ 0x20 ∷ []) ((4 ∷ 9 ∷ 0 ∷ 1 ∷ []) ∷ (4 ∷ 5 ∷ 1 ∷ []) ∷ [])
    -- 5 behind a slash
    ∷ row (0x2f ∷ 0x78 ∷ []) ((1 ∷ 5 ∷ 2 ∷ []) ∷ [])
    -- the slash decides the name
    ∷ row (0x61 ∷ 0x2f ∷ 0x20 ∷ []) ((1 ∷ 9 ∷ 0 ∷ 1 ∷ []) ∷ (2 ∷ 5 ∷ 3 ∷ []) ∷ [])
    -- an unknown extension
    ∷ row (0x23 ∷ 0x21 ∷ 0x5b ∷ 0x65 ∷ 0x6e ∷ 0x61 ∷ 0x62 ∷ 0x6c ∷ 0x65 ∷ 0x28 ∷ 0x66 ∷ 0x6f ∷ 0x6f ∷ 0x29 ∷ 0x5d ∷ []) ((13 ∷ 21 ∷ 0 ∷ []) ∷ [])
    -- an attribute that is none
    ∷ row (0x23 ∷ 0x21 ∷ 0x5b ∷ 0x20 ∷ 0x66 ∷ 0x6f ∷ 0x6f ∷ 0x20 ∷ []) ((7 ∷ 19 ∷ 0 ∷ []) ∷ [])
    -- bad UTF-8 is told before anything that its byte would decide
    ∷ row (0x78 ∷ 0xc3 ∷ 0x20 ∷ 0x79 ∷ []) ((2 ∷ 2 ∷ 1 ∷ []) ∷ [])
    -- and where no character begins so
    ∷ row (0x78 ∷ 0x80 ∷ []) ((1 ∷ 2 ∷ 1 ∷ []) ∷ [])
    ∷ []

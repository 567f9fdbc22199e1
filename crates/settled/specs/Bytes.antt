-- The bytes of change request 3 (document 02): "a quiet byte or a `/`"; "a comma, a colon, and an entry that ends in a quote or a bracket"; and those behind which
-- no name, number or word looks.
use Rattle.std.specs.Prelude.{ℕ, Bool, not, ◌&&◌, ◌||◌, List, [], ◌∷◌, eqb, ltb}
use Rattle.text.specs.Classes.{ascii_raw, one_of}
use Rattle.reading.specs.Owed.{quiet_byte}

-- A quiet byte or a `/`.
unfoldable pub decides_byte : ℕ → Bool
decides_byte c = quiet_byte c || eqb c 0x2f

-- Comma, colon, brackets and quotes.
abbrev pub close_bytes : List ℕ
close_bytes = 0x2c ∷ 0x3a ∷ 0x28 ∷ 0x29 ∷ 0x5b ∷ 0x5d ∷ 0x7b ∷ 0x7d ∷ 0x22 ∷ 0x27 ∷ []

-- The last byte of an entry that is decided at once.
unfoldable pub closes_byte : ℕ → Bool
closes_byte c = one_of close_bytes c

-- An ASCII byte that is no character of a name or raw name, and neither `#` nor `\`.
unfoldable pub stops_byte : ℕ → Bool
stops_byte c = ltb c 0x80 && not (one_of (0x23 ∷ 0x5c ∷ []) c || ascii_raw c)

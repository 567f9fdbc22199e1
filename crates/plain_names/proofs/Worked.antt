-- Worked texts, computed from the definition. Assumes nothing.
use mathlib.Core.List.{[], ◌∷◌}
use mathlib.Core.Path.{◌≡◌, refl}
use Rattle.names.specs.Classify.{begins_float}
use Rattle.reading.specs.Owed.{quiet_byte}
use Rattle.text.specs.Classes.{digit, ascii_first, ascii_next, letter, within}
use Rattle.text.specs.Runs.{run}
use Rattle.text.specs.Words.{starts_with}
use Rattle.plain_names.specs.inner.PlainNames.{plain_name}

-- `id:`, `_1,`, `r(`, `Na `: plain
plain : (plain_name (0x69 ∷ 0x64 ∷ 0x3a ∷ []) ≡ 2)
    × (plain_name (0x5f ∷ 0x31 ∷ 0x2c ∷ []) ≡ 2)
    × (plain_name (0x72 ∷ 0x28 ∷ []) ≡ 1)
    × (plain_name (0x4e ∷ 0x61 ∷ 0x20 ∷ []) ≡ 2)
unfolding plain_name run ascii_first ascii_next letter digit within quiet_byte begins_float starts_with
plain = (refl, refl, refl, refl)

-- `a`, `a.b,`, `1a,`, `inf,`, `NaNs,`, `b"`, `r#a,`: left to the token reader
not_plain : (plain_name (0x61 ∷ []) ≡ 0)
    × (plain_name (0x61 ∷ 0x2e ∷ 0x62 ∷ 0x2c ∷ []) ≡ 0)
    × (plain_name (0x31 ∷ 0x61 ∷ 0x2c ∷ []) ≡ 0)
    × (plain_name (0x69 ∷ 0x6e ∷ 0x66 ∷ 0x2c ∷ []) ≡ 0)
    × (plain_name (0x4e ∷ 0x61 ∷ 0x4e ∷ 0x73 ∷ 0x2c ∷ []) ≡ 0)
    × (plain_name (0x62 ∷ 0x22 ∷ []) ≡ 0)
    × (plain_name (0x72 ∷ 0x23 ∷ 0x61 ∷ 0x2c ∷ []) ≡ 0)
unfolding plain_name run ascii_first ascii_next letter digit within quiet_byte begins_float starts_with
not_plain = (refl, refl, refl, refl, refl, refl, refl)

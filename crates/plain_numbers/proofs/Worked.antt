-- Texts with the plain number in front of each, computed of the definition. Assumes nothing.
use mathlib.Core.List.{List, [], ◌∷◌}
use mathlib.Core.Path.{◌≡◌, refl}
use Rattle.text.specs.Classes.{digit, within}
use Rattle.text.specs.Runs.{run}
use Rattle.digits.specs.Digits.{hex_of}
use Rattle.digits.specs.Value.{value_from}
use Rattle.integers.specs.Front.{sign_of}
use Rattle.integers.specs.Width.{first_fit}
use Rattle.reading.specs.Owed.{quiet_byte}
use Rattle.tokens.specs.declared.lexeme.Lexeme.{Lexeme}
use Rattle.plain_numbers.specs.inner.PlainNumbers.{fit_of, fraction_of, not_plain, plain_float, plain_integer, plain_number}

-- `1000,`, `255 `, `256)`, `007]`, `65536⟨LF⟩`, `999999999,`, `-129,`, `+5:`, `10590.5,`, `-1.63816)`.
abbrev plain : List Lexeme
plain =
    plain_number (0x31 ∷ 0x30 ∷ 0x30 ∷ 0x30 ∷ 0x2c ∷ [])
    ∷ plain_number (0x32 ∷ 0x35 ∷ 0x35 ∷ 0x20 ∷ [])
    ∷ plain_number (0x32 ∷ 0x35 ∷ 0x36 ∷ 0x29 ∷ [])
    ∷ plain_number (0x30 ∷ 0x30 ∷ 0x37 ∷ 0x5d ∷ [])
    ∷ plain_number (0x36 ∷ 0x35 ∷ 0x35 ∷ 0x33 ∷ 0x36 ∷ 0x0a ∷ [])
    ∷ plain_number (0x39 ∷ 0x39 ∷ 0x39 ∷ 0x39 ∷ 0x39 ∷ 0x39 ∷ 0x39 ∷ 0x39 ∷ 0x39 ∷ 0x2c ∷ [])
    ∷ plain_number (0x2d ∷ 0x31 ∷ 0x32 ∷ 0x39 ∷ 0x2c ∷ [])
    ∷ plain_number (0x2b ∷ 0x35 ∷ 0x3a ∷ [])
    ∷ plain_number (0x31 ∷ 0x30 ∷ 0x35 ∷ 0x39 ∷ 0x30 ∷ 0x2e ∷ 0x35 ∷ 0x2c ∷ [])
    ∷ plain_number (0x2d ∷ 0x31 ∷ 0x2e ∷ 0x36 ∷ 0x33 ∷ 0x38 ∷ 0x31 ∷ 0x36 ∷ 0x29 ∷ [])
    ∷ []

pub worked : plain ≡
    plain_integer 4 6
    ∷ plain_integer 3 5
    ∷ plain_integer 3 6
    ∷ plain_integer 3 5
    ∷ plain_integer 5 7
    ∷ plain_integer 9 7
    ∷ plain_integer 4 2
    ∷ plain_integer 2 5
    ∷ plain_float 7
    ∷ plain_float 8
    ∷ []
unfolding plain_number fraction_of fit_of sign_of run digit within quiet_byte value_from hex_of first_fit
worked = refl

-- `1000000000,`, `1_048u16,`, `0x6109,`, `1e5,`, `7.,`, `.5,`, `1..2,`, `7`, `7//`, `-,`, `Lock(`.
abbrev other : List Lexeme
other =
    plain_number (0x31 ∷ 0x30 ∷ 0x30 ∷ 0x30 ∷ 0x30 ∷ 0x30 ∷ 0x30 ∷ 0x30 ∷ 0x30 ∷ 0x30 ∷ 0x2c ∷ [])
    ∷ plain_number (0x31 ∷ 0x5f ∷ 0x30 ∷ 0x34 ∷ 0x38 ∷ 0x75 ∷ 0x31 ∷ 0x36 ∷ 0x2c ∷ [])
    ∷ plain_number (0x30 ∷ 0x78 ∷ 0x36 ∷ 0x31 ∷ 0x30 ∷ 0x39 ∷ 0x2c ∷ [])
    ∷ plain_number (0x31 ∷ 0x65 ∷ 0x35 ∷ 0x2c ∷ [])
    ∷ plain_number (0x37 ∷ 0x2e ∷ 0x2c ∷ [])
    ∷ plain_number (0x2e ∷ 0x35 ∷ 0x2c ∷ [])
    ∷ plain_number (0x31 ∷ 0x2e ∷ 0x2e ∷ 0x32 ∷ 0x2c ∷ [])
    ∷ plain_number (0x37 ∷ [])
    ∷ plain_number (0x37 ∷ 0x2f ∷ 0x2f ∷ [])
    ∷ plain_number (0x2d ∷ 0x2c ∷ [])
    ∷ plain_number (0x4c ∷ 0x6f ∷ 0x63 ∷ 0x6b ∷ 0x28 ∷ [])
    ∷ []

pub worked_other : other ≡ not_plain ∷ not_plain ∷ not_plain ∷ not_plain ∷ not_plain ∷ not_plain ∷ not_plain ∷ not_plain ∷ not_plain ∷ not_plain ∷ not_plain ∷ []
unfolding plain_number fraction_of fit_of sign_of run digit within quiet_byte value_from hex_of first_fit
worked_other = refl

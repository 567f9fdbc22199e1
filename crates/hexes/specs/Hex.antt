-- Hex digits (document 01): "Integer characters: hex digits, `_`", "`\u{}` takes 1 to 6 hex digits".
use Rattle.std.specs.Prelude.{Some, None, Option, ℕ, ◌-◌, cond}
use Rattle.text.specs.Classes.{hex_digit, within}

-- The value of a hex digit, 0 to 9, A to F, a to f; 16 for any other byte.
unfoldable pub hex_of : ℕ → ℕ
hex_of c =
    cond (within 0x30 0x39 c) (c - 0x30)
    (cond (within 0x41 0x46 c) (c - 0x37)
    (cond (within 0x61 0x66 c) (c - 0x57)
    16))

-- A hex digit with its value, or none.
abbrev pub hex_answer : ℕ → Option ℕ
hex_answer c = cond (hex_digit c) (Some (hex_of c)) None

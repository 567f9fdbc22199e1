-- Characters that a terminal shows in one cell of their own: no control characters, which would move its cursor, and none that take no room or turn the
-- direction of the line. (Wide and combining characters are not told apart.)
use Rattle.std.specs.Prelude.{ℕ, Bool, true, not, cond, leb, eqb}
use Rattle.text.specs.Classes.{within}

-- The controls: U+0000 to U+001F, U+007F to U+009F.
unfoldable pub control : ℕ → Bool
control c = cond (leb c 0x1F) true (within 0x7F 0x9F c)

-- No width of their own: U+200B to U+200F, U+2028 to U+202E, U+2060 to U+206F, U+FEFF.
unfoldable pub hidden : ℕ → Bool
hidden c = cond (within 0x200B 0x200F c) true (cond (within 0x2028 0x202E c) true (cond (within 0x2060 0x206F c) true (eqb c 0xFEFF)))

-- A code point that is shown as it is.
unfoldable pub shown : ℕ → Bool
shown c = cond (control c) (eqb c 9) (not (hidden c))

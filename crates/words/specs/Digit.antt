-- Digits, decimal and hexadecimal.
use Rattle.std.specs.Prelude.{ℕ, ◌-◌, Bool, cond}
use Rattle.text.specs.Classes.{within}

-- `0` to `9`
abbrev pub is_digit : ℕ → Bool
is_digit a = within 48 57 a

-- what a digit says, `0` to `9` and then `a` to `f`; 16 says that it is none
unfoldable pub nibble_of : ℕ → ℕ
nibble_of a = cond (is_digit a) (a - 48) (cond (within 97 102 a) (a - 87) 16)

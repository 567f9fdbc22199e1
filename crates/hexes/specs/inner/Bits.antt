-- A class of bytes as the bits of a number.
use Rattle.std.specs.Prelude.{ℕ, ◌-◌, ◌/◌, ◌%◌, ◌^◌, Bool, ◌&&◌, eqb}
use Rattle.text.specs.Classes.{within}

-- The byte is one of `0` to `f`, and its bit is set.
unfoldable pub among : ℕ → ℕ → Bool
among class c = within 0x30 0x66 c && eqb (class / 2 ^ (c - 0x30) % 2) 1

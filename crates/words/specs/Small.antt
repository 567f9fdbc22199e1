-- A word as a number of a tape.
use Rattle.std.specs.Prelude.{ℕ, ◌^◌, cond, List, ltb, Option, Some, None}
use Rattle.words.specs.Number.{decimal_of}

-- a number below 2^32
abbrev pub small : Option ℕ → Option ℕ
small (Some n) = cond (ltb n (2 ^ 32)) (Some n) None
small None = None

-- the number below 2^32 that a word says
unfoldable pub small_of : List ℕ → Option ℕ
small_of s = small (decimal_of s)

-- Bytes in lower-case hex.
use Rattle.std.specs.Prelude.{ℕ, ◌+◌, ◌/◌, ◌%◌, cond, List, [], ◌∷◌, ltb}

-- The digit for the low four bits.
unfoldable pub digit_of : ℕ → ℕ
digit_of n = cond (ltb (n % 16) 10) (48 + n % 16) (87 + n % 16)

-- Two digits for each byte.
unfoldable pub hex_text : List ℕ → List ℕ
hex_text [] = []
hex_text (b ∷ s) = digit_of (b / 16) ∷ digit_of b ∷ hex_text s

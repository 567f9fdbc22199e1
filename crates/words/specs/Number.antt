-- A word as a decimal number.
use Rattle.std.specs.Prelude.{ℕ, ◌+◌, ◌-◌, ◌*◌, ◌^◌, Bool, true, cond, ◌&&◌, List, [], ◌∷◌, ltb, Option, Some, None}
use Rattle.words.specs.Digit.{is_digit}

-- every byte is a digit
unfoldable pub all_digits : List ℕ → Bool
all_digits [] = true
all_digits (a ∷ s) = is_digit a && all_digits s

-- the number that digits say, behind others that say n
unfoldable pub value_from : List ℕ → ℕ → ℕ
value_from [] n = n
value_from (a ∷ s) n = value_from s (n * 10 + (a - 48))

-- the same where they are digits, and the number is below 2^64
unfoldable pub decimal_from : List ℕ → ℕ → Option ℕ
decimal_from s n = cond (all_digits s && ltb (value_from s n) (2 ^ 64)) (Some (value_from s n)) None

-- a word: at least one digit
unfoldable pub decimal_of : List ℕ → Option ℕ
decimal_of [] = None
decimal_of (a ∷ s) = decimal_from (a ∷ s) 0

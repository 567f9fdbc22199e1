-- A number as text, in decimal.
use Rattle.std.specs.Prelude.{ℕ, zero, suc, ◌+◌, ◌/◌, ◌%◌, cond, List, [], ◌∷◌, ◌++◌, ltb}

-- the digits of n, which has at most k of them
unfoldable pub digits_in : ℕ → ℕ → List ℕ
digits_in zero n = []
digits_in (suc k) n = cond (ltb n 10) [] (digits_in k (n / 10)) ++ ((48 + n % 10) ∷ [])

-- a number in decimal: it has no more digits than one more than it says
unfoldable pub decimal : ℕ → List ℕ
decimal n = digits_in (n + 1) n

-- a number behind a space
unfoldable pub word_of : ℕ → List ℕ
word_of n = 32 ∷ decimal n

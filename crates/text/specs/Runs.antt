-- Runs of a class at the front of a part: what "digits", "a name" or "whitespace" takes.
use Rattle.std.specs.Prelude.{ℕ, zero, suc, ◌+◌, List, [], ◌∷◌, Bool, true, cond, ◌&&◌, get_or, ltb}

-- How many bytes from the front are of the class.
unfoldable pub run : (ℕ → Bool) → List ℕ → ℕ
run p [] = 0
run p (a ∷ s) = let rest = run p s in cond (p a) (suc rest) 0

-- The same where the class sees a byte and the one behind it, 0 at the end.
unfoldable pub run2 : (ℕ → ℕ → Bool) → List ℕ → ℕ
run2 p [] = 0
run2 p (a ∷ s) = let rest = run2 p s in cond (p a (get_or s 0 0)) (suc rest) 0

-- A byte of ASCII.
abbrev pub ascii : ℕ → Bool
ascii a = ltb a 0x80

-- The n bytes from `at` on are ASCII; a byte past the end counts as 0.
unfoldable pub ascii_for : List ℕ → ℕ → ℕ → Bool
ascii_for s at zero = true
ascii_for s at (suc n) = ascii_for s at n && ascii (get_or s (at + n) 0)

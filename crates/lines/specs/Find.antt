-- A line ends at its LF, and a word at a space.
use Rattle.std.specs.Prelude.{ℕ, suc, cond, List, [], ◌∷◌, eqb}

-- how many bytes stand before the first b: all of them where there is none
unfoldable pub find_of : ℕ → List ℕ → ℕ
find_of b [] = 0
find_of b (a ∷ s) = cond (eqb a b) 0 (suc (find_of b s))

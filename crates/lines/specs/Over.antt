-- A copy of bytes to the front of others.
use Rattle.std.specs.Prelude.{ℕ, List, [], ◌∷◌}

-- s over the front of d, as much of it as d has room for
unfoldable pub over : List ℕ → List ℕ → List ℕ
over [] d = d
over (a ∷ s) [] = []
over (a ∷ s) (b ∷ d) = a ∷ over s d

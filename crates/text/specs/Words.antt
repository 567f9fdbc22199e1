-- Words at the front of a part: the crate's `check_str`.
use Rattle.std.specs.Prelude.{ℕ, List, [], ◌∷◌, Bool, true, false, ◌&&◌, eqb}

-- The part begins with the word.
unfoldable pub starts_with : (word t : List ℕ) → Bool
starts_with [] t = true
starts_with (w ∷ ws) [] = false
starts_with (w ∷ ws) (c ∷ cs) = let rest = starts_with ws cs in eqb c w && rest

-- A word as bytes in lower-case hex.
use Rattle.std.specs.Prelude.{ℕ, ◌+◌, ◌*◌, cond, ◌&&◌, List, [], ◌∷◌, length, leb, ltb, eqb, Option, Some, None}
use Rattle.words.specs.Dash.{is_dash}
use Rattle.words.specs.Digit.{nibble_of}

-- the byte that two digits say; 256 says that they are none
unfoldable pub pair_of : ℕ → ℕ → ℕ
pair_of a b = cond (ltb (nibble_of a) 16 && ltb (nibble_of b) 16) (nibble_of a * 16 + nibble_of b) 256

-- the bytes that the pairs of digits at the front say
unfoldable pub pairs : List ℕ → List ℕ
pairs [] = []
pairs (a ∷ []) = []
pairs (a ∷ b ∷ s) = cond (ltb (pair_of a b) 256) (pair_of a b ∷ pairs s) []

-- how many bytes s says, where it is pairs throughout and there is room for them
unfoldable pub pairs_in : List ℕ → ℕ → Option ℕ
pairs_in s room = cond (eqb (2 * length (pairs s)) (length s) && leb (length (pairs s)) room) (Some (length (pairs s))) None

-- a word: at least one pair, or `-` for no bytes
unfoldable pub hex_in : List ℕ → ℕ → Option ℕ
hex_in s room = cond (is_dash s) (Some 0) (cond (eqb (length s) 0) None (pairs_in s room))

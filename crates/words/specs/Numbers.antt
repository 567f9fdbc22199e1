-- A word as numbers of a tape, with commas between.
use Rattle.std.specs.Prelude.{ℕ, cond, ◌&&◌, List, [], ◌∷◌, length, leb, eqb, Option, Some, None}
use Rattle.words.specs.Dash.{is_dash}
use Rattle.words.specs.Small.{small_of}

-- a byte in front of the first item
abbrev pub in_front : ℕ → List (List ℕ) → List (List ℕ)
in_front a [] = (a ∷ []) ∷ []
in_front a (w ∷ ws) = (a ∷ w) ∷ ws

-- the items between commas
unfoldable pub items : List ℕ → List (List ℕ)
items [] = [] ∷ []
items (a ∷ s) = let ws = items s in cond (eqb a 44) ([] ∷ ws) (in_front a ws)

-- what goes on behind an item that is a number; nothing behind one that is none
abbrev pub on_small : Option ℕ → (ℕ → List ℕ) → List ℕ
on_small (Some n) k = k n
on_small None k = []

-- the numbers that the items at the front say
unfoldable pub smalls : List (List ℕ) → List ℕ
smalls [] = []
smalls (w ∷ ws) = on_small (small_of w) (λ n. n ∷ smalls ws)

-- the numbers that a word says
abbrev pub numbers_of : List ℕ → List ℕ
numbers_of s = smalls (items s)

-- how many numbers s has, where all its items are numbers and there is room for them
unfoldable pub items_in : List ℕ → ℕ → Option ℕ
items_in s room =
    cond (eqb (length (numbers_of s)) (length (items s)) && leb (length (numbers_of s)) room) (Some (length (numbers_of s))) None

-- a word: items, or `-` for none
unfoldable pub numbers_in : List ℕ → ℕ → Option ℕ
numbers_in s room = cond (is_dash s) (Some 0) (items_in s room)

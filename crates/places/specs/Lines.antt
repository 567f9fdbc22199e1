-- Lines, as people count them. Document 01: "Places are byte offsets." A place's line is one more than the LFs before it.
use Rattle.std.specs.Prelude.{ℕ, zero, suc, ◌+◌, ◌-◌, Bool, cond, List, [], ◌∷◌, eqb, get_or, take, drop}
use Rattle.lines.specs.Find.{find_of}

-- How many bytes are of the class.
unfoldable pub count : (ℕ → Bool) → List ℕ → ℕ
count p [] = 0
count p (a ∷ s) = let rest = count p s in cond (p a) (suc rest) rest

-- The bytes from a place to another.
abbrev pub between : List ℕ → ℕ → ℕ → List ℕ
between s a e = take (e - a) (drop a s)

-- The byte that ends a line.
abbrev pub line_feed : ℕ → Bool
line_feed b = eqb b 10

-- The line of a place.
unfoldable pub line_of : List ℕ → ℕ → ℕ
line_of s p = 1 + count line_feed (between s 0 p)

-- Where the line of a place starts: behind the last LF before it.
unfoldable pub line_start : List ℕ → ℕ → ℕ
line_start s zero = 0
line_start s (suc p) = cond (line_feed (get_or s p 0)) (suc p) (line_start s p)

-- The first LF at or behind a place, or the text's end.
unfoldable pub feed_from : List ℕ → ℕ → ℕ
feed_from s p = p + find_of 10 (drop p s)

-- Where the line of a place ends: there, but a CR at its end is left out.
unfoldable pub line_end : List ℕ → ℕ → ℕ
line_end s p = cond (eqb (get_or s (feed_from s p - 1) 0) 13) (feed_from s p - 1) (feed_from s p)

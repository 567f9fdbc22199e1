-- Bytes put out through a lent buffer: one after another from a place on. A full buffer goes to the system, and the next byte stands at its front.
use Rattle.std.specs.Prelude.{ℕ, ◌+◌, cond, List, [], ◌∷◌, eqb, ltb, length, set}

-- one byte into a buffer with a place; a buffer of no bytes stays empty
unfoldable pub put_byte : List ℕ × ℕ → ℕ → List ℕ × ℕ
put_byte (o, at) b = cond (ltb at (length o)) (set o at b, at + 1) (cond (eqb (length o) 0) (o, 0) (set o 0 b, 1))

-- bytes, one after another
unfoldable pub put : List ℕ × ℕ → List ℕ → List ℕ × ℕ
put out [] = out
put out (b ∷ s) = put (put_byte out b) s

-- The list of all integers among the entries of a tape.
use Rattle.std.specs.Prelude.{ℕ, ◌+◌, min, cond, List, [], ◌∷◌, eqb, ltb, length, set, take}
use Rattle.rows.specs.Rows.{room_of, entries_of}
use Rattle.rows.specs.declared.Entry.{Entry}

-- The numbers of the entries of kind 11, where the first entry has the number k.
unfoldable pub integers_from : List Entry → ℕ → List ℕ
integers_from [] k = []
integers_from (e ∷ es) k = let rest = integers_from es (k + 1) in cond (eqb e.kind 11) (k ∷ rest) rest

-- How many of n entries are looked at: a text has no more than 65,536, and a tape no more than it has room for.
unfoldable pub rows_of : ℕ → List ℕ → ℕ
rows_of n tape = min (min n 65536) (room_of (length tape))

-- The numbers of all integers among the first n entries, as far as there is room for them.
unfoldable pub gathered : List ℕ → ℕ → ℕ → List ℕ
gathered tape n room = take room (integers_from (entries_of (rows_of n tape) tape) 0)

-- An entry's number behind the first k of a list, where it is an integer's and there is room.
unfoldable pub noted : Entry → ℕ → List ℕ × ℕ → List ℕ × ℕ
noted e i (list, k) = cond (ltb k (length list)) (cond (eqb e.kind 11) (set list k i, k + 1) (list, k)) (list, k)

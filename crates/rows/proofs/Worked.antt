-- Worked tapes, computed from the definitions. Assumes nothing.
use Prim.Native.Nat.{◌*◌, ℕ}
use mathlib.Core.Bool.{false, true}
use mathlib.Core.List.{List, [], ◌++◌, ◌∷◌}
use mathlib.Core.Path.{◌≡◌, refl}
use lib.ListN.{drop, length}
use Rattle.rows.specs.Order.{in_order, in_order_from, orderly}
use Rattle.rows.specs.Rows.{entries_of, entry_at, flat, room_of, width, written}
use Rattle.rows.specs.declared.Entry.{Entry}
use Rattle.text.specs.Classes.{within}

-- `Lock(id: 7)`, and seven numbers behind its entries
abbrev lock : List ℕ
lock =
    9 ∷ 0 ∷ 4 ∷ 0 ∷ 0 ∷ 1 ∷ 4 ∷ 5 ∷ 0 ∷ 0 ∷ 9 ∷ 5 ∷ 7 ∷ 0 ∷ 0 ∷ 8 ∷ 7 ∷ 8 ∷ 0 ∷ 0 ∷ 11 ∷ 9 ∷ 10 ∷ 5 ∷ 1 ∷ 2 ∷ 10 ∷ 11 ∷ 0 ∷ 0 ∷ 1 ∷ 2 ∷ 3 ∷ 4 ∷ 5 ∷ 6 ∷ 7 ∷ []

abbrev row : ℕ → ℕ → ℕ → ℕ → ℕ → Entry
row k s e d g = record { kind = k; start = s; end = e; detail = d; gap = g }

-- room is rounded down
rooms : room_of (length lock) ≡ 7
rooms = refl

holds : entries_of 6 lock ≡ row 9 0 4 0 0 ∷ row 1 4 5 0 0 ∷ row 9 5 7 0 0 ∷ row 8 7 8 0 0 ∷ row 11 9 10 5 1 ∷ row 2 10 11 0 0 ∷ []
unfolding entries_of
holds = refl

fifth : entry_at lock 4 ≡ row 11 9 10 5 1
unfolding entry_at
fifth = refl

-- an entry may begin at the former's end, and the last may end at the limit
in-order : in_order (entries_of 6 lock) 11 ≡ true
unfolding in_order in_order_from orderly within entries_of
in-order = refl

past_the_limit : in_order (entries_of 6 lock) 10 ≡ false
unfolding in_order in_order_from orderly within entries_of
past_the_limit = refl

-- kind 0, kind 17, an entry without a byte, and one that begins before the former's end
out_of_order : (in_order (row 0 0 1 0 0 ∷ []) 9 ≡ false) × (in_order (row 17 0 1 0 0 ∷ []) 9 ≡ false) × (in_order (row 9 1 1 0 1 ∷ []) 9 ≡ false)
    × (in_order (row 9 0 2 0 0 ∷ row 9 1 3 0 0 ∷ []) 9 ≡ false)
unfolding in_order in_order_from orderly within
out_of_order = (refl, refl, refl, refl)

-- a gap is the distance from the former's end, or from the text's start: one too few, one too many, and the start for the distance
gaps : (in_order (row 9 1 2 0 1 ∷ row 9 4 5 0 2 ∷ []) 9 ≡ true) × (in_order (row 9 1 2 0 0 ∷ []) 9 ≡ false) × (in_order (row 9 1 2 0 1 ∷ row 9 4 5 0 3 ∷ []) 9 ≡ false)
    × (in_order (row 9 1 2 0 1 ∷ row 9 4 5 0 4 ∷ []) 9 ≡ false)
unfolding in_order in_order_from orderly within
gaps = (refl, refl, refl, refl)

-- no entry is in order within any limit
empty : in_order [] 0 ≡ true
unfolding in_order in_order_from
empty = refl

one_row : written lock 1 (row 7 8 9 6 5) ≡ flat (row 9 0 4 0 0 ∷ row 7 8 9 6 5 ∷ []) ++ drop (width * 2) lock
unfolding written flat
one_row = refl

-- A tape in order (document 01, refusal 23): "kinds are 1 to 16, each start is below its end, no entry starts before the former's end,
-- and the last ends within the old length (walk: within 65,536)." Document 02, CR 6: "23 also where a gap does not equal that distance", from the former
-- entry's end, or the text's start, to its own start.
use Rattle.std.specs.Prelude.{ℕ, zero, suc, ◌+◌, List, [], ◌∷◌, Bool, ◌&&◌, ltb, leb, eqb}
use Rattle.text.specs.Classes.{within}
use Rattle.rows.specs.declared.Entry.{Entry}

-- An entry may stand behind the place `at`; the distance is told by a sum, since a difference would be cut off at 0.
unfoldable pub orderly : ℕ → Entry → Bool
orderly at e = within 1 16 e.kind && (ltb e.start e.end && (leb at e.start && eqb (at + e.gap) e.start))

-- Four entries, one behind the other, may: what is asked at once of four rows.
unfoldable pub four_orderly : ℕ → Entry → Entry → Entry → Entry → Bool
four_orderly at a b c d = orderly at a && (orderly a.end b && (orderly b.end c && orderly c.end d))

-- The entries behind the place `at` are in order, and the last ends within the limit.
unfoldable pub in_order_from : List Entry → ℕ → ℕ → Bool
in_order_from [] at limit = leb at limit
in_order_from (e ∷ es) at limit = orderly at e && in_order_from es e.end limit

-- The entries of a tape are in order, and the last ends within the limit.
unfoldable pub in_order : List Entry → ℕ → Bool
in_order es limit = in_order_from es 0 limit

-- Where the entry before number k ends, and `at` where none stands before it.
unfoldable pub former_end : ℕ → List Entry → ℕ → ℕ
former_end at es zero = at
former_end at [] (suc k) = at
former_end at (e ∷ es) (suc k) = former_end e.end es k

-- The byte at which a refusal of the walk stands. Document 01: "24, 25: depth limit passed; entry not allowed here; place: entry number. 26: tape ends early;
-- place: entry count." Document 02, CR 2: "31, repeated field, with the entry number".
use Rattle.std.specs.Prelude.{ℕ, ◌-◌, Bool, cond, ◌||◌, List, eqb, ltb}
use Rattle.text.specs.Classes.{within}
use Rattle.text.specs.declared.refusal.Refusal.{Refusal}
use Rattle.rows.specs.Rows.{entry_at}

-- Where entry n of so many starts; no entry has the count's own number, and its place is the last one's end, or 0.
unfoldable pub entry_place : List ℕ → ℕ → ℕ → ℕ
entry_place tape count n =
    cond (ltb n count) (entry_at tape n).start (cond (ltb 0 count) (entry_at tape (count - 1)).end 0)

-- 24 to 26 and 31 name an entry.
unfoldable pub names_entry : ℕ → Bool
names_entry number = within 24 26 number || eqb number 31

-- The byte of a refusal that the walk of so many entries gave.
unfoldable pub walk_place : List ℕ → ℕ → Refusal → ℕ
walk_place tape count r = cond (names_entry r.number) (entry_place tape count r.place) r.place

-- XID_Start and XID_Continue (CR 5): "as sorted ranges in one constant table. That the ranges are sorted, apart and that every start character is also a
-- continue character is proved over the whole table; the lookup equals membership."
use Rattle.std.specs.Prelude.{ℕ, suc, ◌/◌, ◌%◌, List, [], ◌∷◌, Bool, true, false, cond, not, ◌&&◌, ◌||◌, get_or, leb, ltb, eqb}
use Rattle.xid.specs.Table.{table}

-- c is one of lo to hi.
unfoldable pub within : ℕ → ℕ → ℕ → Bool
within lo hi c = leb lo c && leb c hi

-- What a row's class says.
abbrev pub starts : ℕ → Bool
starts k = eqb (k % 2) 1

abbrev pub continues : ℕ → Bool
continues k = eqb (k / 2 % 2) 1

-- Membership: c lies in one of the rows whose class passes the test.
unfoldable pub in_rows : (ℕ → Bool) → List ℕ → ℕ → Bool
in_rows p [] c = false
in_rows p (a ∷ []) c = false
in_rows p (a ∷ b ∷ []) c = false
in_rows p (a ∷ b ∷ k ∷ rows) c = (within a b c && p k) || in_rows p rows c

-- XID_Start.
unfoldable pub xid_start : ℕ → Bool
xid_start c = in_rows starts table c

-- XID_Continue.
unfoldable pub xid_continue : ℕ → Bool
xid_continue c = in_rows continues table c

-- The class of the first row that c lies in, 0 where it lies in none: what the search finds.
unfoldable pub class_of : List ℕ → ℕ → ℕ
class_of [] c = 0
class_of (a ∷ []) c = 0
class_of (a ∷ b ∷ []) c = 0
class_of (a ∷ b ∷ k ∷ rows) c = let rest = class_of rows c in cond (within a b c) k rest

-- ---- what is proved over the whole table

-- The next row, if there is one, begins behind `last`; one that follows at once is of another class.
abbrev pub apart_from : ℕ → ℕ → List ℕ → Bool
apart_from last k [] = true
apart_from last k (a ∷ rows) = ltb last a && not (eqb a (suc last) && eqb (get_or rows 1 0) k)

-- Whole rows, each a range, sorted and apart; and every class that starts a name also goes on in one.
unfoldable pub in_order : List ℕ → Bool
in_order [] = true
in_order (a ∷ []) = false
in_order (a ∷ b ∷ []) = false
in_order (a ∷ b ∷ k ∷ rows) = leb a b && (apart_from b k rows && ((not (starts k) || continues k) && in_order rows))

-- ---- a help to speed

-- Letters of the rows that most names above U+007F are written with, Latin, Greek, Cyrillic, Han and Hangul: the code asks for them before it builds the table.
unfoldable pub usual : ℕ → Bool
usual c =
    (within 0xc0 0x2c1 c && not (eqb c 0xd7 || eqb c 0xf7))
    || ((within 0x3a3 0x481 c && not (eqb c 0x3f6)) || (within 0x4e00 0xa48c c || within 0xac00 0xd7a3 c))

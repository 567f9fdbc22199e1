-- Worked repairs, counted by the definitions: entries before and behind. Assumes nothing.
use Prim.Native.Nat.{ℕ}
use mathlib.Core.List.{List, [], ◌∷◌}
use mathlib.Core.Path.{◌≡◌, refl}
use Rattle.reading.specs.Kept.{all_behind, any_quiet, are_kept, are_moved, count_of, is_moved, kept_before, kept_behind, largest}
use Rattle.reading.specs.Owed.{quiet_byte}
use Rattle.rows.specs.declared.Entry.{Entry}

abbrev row : ℕ → ℕ → ℕ → ℕ → ℕ → Entry
row k s e d g = record { kind = k; start = s; end = e; detail = d; gap = g }

-- ---- `[7, 8, 9]`, cut 4 to 6, new bytes `/*8,*/`: kept 3 and 1, since the 9 has another gap

abbrev list : List ℕ
list = 0x5b ∷ 0x37 ∷ 0x2c ∷ 0x20 ∷ 0x38 ∷ 0x2c ∷ 0x20 ∷ 0x39 ∷ 0x5d ∷ []

abbrev list_old : List Entry
list_old = row 3 0 1 0 0 ∷ row 11 1 2 5 0 ∷ row 7 2 3 0 0 ∷ row 11 4 5 5 1 ∷ row 7 5 6 0 0 ∷ row 11 7 8 5 1 ∷ row 4 8 9 0 0 ∷ []

abbrev list_new : List Entry
list_new = row 3 0 1 0 0 ∷ row 11 1 2 5 0 ∷ row 7 2 3 0 0 ∷ row 11 11 12 5 8 ∷ row 4 12 13 0 0 ∷ []

list_kept : (kept_before quiet_byte list 4 list_old ≡ 3) × (kept_behind 9 13 10 list_old list_new ≡ 1)
unfolding kept_before count_of any_quiet quiet_byte kept_behind largest are_kept all_behind are_moved is_moved
list_kept = (refl, refl)

-- ---- `a,b`: the name in front is kept by a cut at 2, and not by one at 1

abbrev pair : List ℕ
pair = 0x61 ∷ 0x2c ∷ 0x62 ∷ []

abbrev pair_old : List Entry
pair_old = row 9 0 1 0 0 ∷ row 7 1 2 0 0 ∷ row 9 2 3 0 0 ∷ []

pair_kept : (kept_before quiet_byte pair 2 pair_old ≡ 1) × (kept_before quiet_byte pair 1 pair_old ≡ 0)
unfolding kept_before count_of any_quiet quiet_byte kept_behind largest are_kept all_behind are_moved is_moved
pair_kept = (refl, refl)

-- ---- `a/*,*/b`, an empty cut at 6: a quiet byte in a comment counts

abbrev comment : List ℕ
comment = 0x61 ∷ 0x2f ∷ 0x2a ∷ 0x2c ∷ 0x2a ∷ 0x2f ∷ 0x62 ∷ []

comment_kept : kept_before quiet_byte comment 6 (row 9 0 1 0 0 ∷ row 9 6 7 0 5 ∷ []) ≡ 1
unfolding kept_before count_of any_quiet quiet_byte kept_behind largest are_kept all_behind are_moved is_moved
comment_kept = refl

-- ---- `ab c`, its first byte cut out: `b` starts where no moved entry starts, and `c` is kept

cut_kept : kept_behind 4 3 0 (row 9 0 2 0 0 ∷ row 9 3 4 0 1 ∷ []) (row 9 0 1 0 0 ∷ row 9 2 3 0 1 ∷ []) ≡ 1
unfolding kept_before count_of any_quiet quiet_byte kept_behind largest are_kept all_behind are_moved is_moved
cut_kept = refl

-- ---- `1`, with an empty cut at 0 and no new bytes, is kept behind

one_kept : (kept_before quiet_byte (0x31 ∷ []) 0 (row 11 0 1 5 0 ∷ []) ≡ 0) × (kept_behind 1 1 0 (row 11 0 1 5 0 ∷ []) (row 11 0 1 5 0 ∷ []) ≡ 1)
unfolding kept_before count_of any_quiet quiet_byte kept_behind largest are_kept all_behind are_moved is_moved
one_kept = (refl, refl)

-- ---- `300 a` without its space: 300 is read again as a float, and the name, whose gap is gone, is not kept

float_kept : kept_behind 5 4 3 (row 11 0 3 6 0 ∷ row 9 4 5 0 1 ∷ []) (row 12 0 3 0 0 ∷ row 9 3 4 0 0 ∷ []) ≡ 0
unfolding kept_before count_of any_quiet quiet_byte kept_behind largest are_kept all_behind are_moved is_moved
float_kept = refl

-- ---- `a b`, a space put in at 2: the name behind it has another gap; with nothing put in, it is kept

space_kept : (kept_behind 3 4 3 (row 9 0 1 0 0 ∷ row 9 2 3 0 1 ∷ []) (row 9 0 1 0 0 ∷ row 9 3 4 0 2 ∷ []) ≡ 0)
    × (kept_behind 3 3 2 (row 9 0 1 0 0 ∷ row 9 2 3 0 1 ∷ []) (row 9 0 1 0 0 ∷ row 9 2 3 0 1 ∷ []) ≡ 1)
unfolding kept_before count_of any_quiet quiet_byte kept_behind largest are_kept all_behind are_moved is_moved
space_kept = (refl, refl)

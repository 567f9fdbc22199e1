-- Laws of rows: how entries and the numbers of a tape go together. Assumes nothing.
use Prim.Native.Nat.{◌*◌, ◌+◌, ◌-◌, ◌<◌, ◌≤◌, suc, zero, ℕ}
use native.Mathlib.Numerals.{add-four, add-one, add-three, add-two}
use native.Mathlib.Omega.{arith}
use mathlib.Core.List.{List, [], ◌++◌, ◌∷◌, append_assoc, append-nil}
use mathlib.Core.Path.{◌∙◌, ◌≡◌, ap, refl, sym, ap₂}
use lib.Ieee.{ne}
use lib.ListN.{drop, get_or, length, length-append, length-drop, take, take-append-drop, set}
use lib.Seq.{drop_at, drop-drop, get_or_at, length-take-le, sets-eq, take-append-le, take_at, take-take, take-nil, get_or-drop}
use Rattle.rows.specs.Rows.{cells, entries_of, entry_at, entry_of, flat, room_of, width, written, laid}
use Rattle.rows.specs.declared.Entry.{Entry}
use Rattle.text.proofs.Choices.{either, lt_or_le}
use Rattle.text.proofs.Lists.{head_at}

-- ---- room

pub row_fits : (i numbers : ℕ) → i < room_of numbers → width * (i + 1) ≤ numbers
row_fits i numbers h = omega arith

-- ---- entries and their numbers

pub entry_cells : (e : Entry) (s : List ℕ) → entry_of (cells e ++ s) ≡ e
entry_cells e s = refl

-- a whole row's numbers are its entry's
pub cells_take : (s : List ℕ) → width ≤ length s → cells (entry_of s) ≡ take width s
cells_take [] h = absurd (omega arith)
cells_take (a ∷ []) h = absurd (omega arith)
cells_take (a ∷ b ∷ []) h = absurd (omega arith)
cells_take (a ∷ b ∷ c ∷ []) h = absurd (omega arith)
cells_take (a ∷ b ∷ c ∷ d ∷ []) h = absurd (omega arith)
cells_take (a ∷ b ∷ c ∷ d ∷ g ∷ s) h = refl

pub length_flat : (es : List Entry) → length (flat es) ≡ width * length es
unfolding flat
length_flat [] = refl
length_flat (e ∷ es) = let h = length_flat es in omega arith

pub flat_append : (es ds : List Entry) → flat (es ++ ds) ≡ flat es ++ flat ds
unfolding flat
flat_append [] ds = refl
flat_append (e ∷ es) ds = ap (λ (l : List ℕ). cells e ++ l) (flat_append es ds)

-- a tape that begins with the numbers of entries holds them
pub entries_flat : (es : List Entry) (s : List ℕ) → entries_of (length es) (flat es ++ s) ≡ es
unfolding flat entries_of
entries_flat [] s = refl
entries_flat (e ∷ es) s = ap {B = List Entry} (λ (l : List Entry). e ∷ l) (entries_flat es s)

pub length_entries : (n : ℕ) (t : List ℕ) → length (entries_of n t) ≡ n
unfolding entries_of
length_entries zero t = refl
length_entries (suc n) t = ap suc (length_entries n (drop width t))

-- ---- a row of a part of the tape

drop_row : (i : ℕ) (t : List ℕ) → drop width (drop (width * i) t) ≡ drop (width * (i + 1)) t
drop_row i t = let e : width * i + width ≡ width * (i + 1) = omega arith in drop-drop width (width * i) t ∙ ap (λ (n : ℕ). drop n t) e

-- what the reads of an entry's numbers come to
pub reads : (t : List ℕ) (i : ℕ)
    → record { kind = get_or t (width * i) 0; start = get_or t (width * i + 1) 0; end = get_or t (width * i + 2) 0; detail = get_or t (width * i + 3) 0; gap = get_or t (width * i + 4) 0 } ≡ entry_at t i
unfolding entry_at
reads t i = rw (head_at t (width * i), get_or-drop (width * i) t 1 0, get_or-drop (width * i) t 2 0, get_or-drop (width * i) t 3 0, get_or-drop (width * i) t 4 0)

pub entry_part : (j i : ℕ) (t : List ℕ) → entry_at (drop (width * j) t) i ≡ entry_at t (j + i)
unfolding entry_at
entry_part j i t =
    let e : width * j + width * i ≡ width * (j + i) = omega arith in
    ap entry_of (drop-drop (width * i) (width * j) t ∙ ap (λ (n : ℕ). drop n t) e)

-- the rows from i on: row i, and those behind it
pub entries_next : (m i : ℕ) (t : List ℕ) → entries_of (suc m) (drop (width * i) t) ≡ entry_at t i ∷ entries_of m (drop (width * (i + 1)) t)
unfolding entries_of entry_at
entries_next m i t = ap (λ (l : List ℕ). entry_at t i ∷ entries_of m l) (drop_row i t)

-- the first rows, and those behind them
pub entries_split : (m n : ℕ) (t : List ℕ) → entries_of (m + n) t ≡ entries_of m t ++ entries_of n (drop (width * m) t)
unfolding entries_of
entries_split zero n t = let e : 0 + n ≡ n = omega arith in ap (λ (k : ℕ). entries_of k t) e
entries_split (suc m) n t =
    let e : suc m + n ≡ suc (m + n) = omega arith in
    let w : width + width * m ≡ width * suc m = omega arith in
    ap (λ (k : ℕ). entries_of k t) e
    ∙ ap {B = List Entry} (λ (l : List Entry). entry_of t ∷ l) (entries_split m n (drop width t))
    ∙ ap (λ (l : List ℕ). entry_of t ∷ (entries_of m (drop width t) ++ entries_of n l)) (drop-drop (width * m) width t ∙ ap (λ (k : ℕ). drop k t) w)

-- one row more
pub entries_last : (n : ℕ) (t : List ℕ) → entries_of (n + 1) t ≡ entries_of n t ++ (entry_at t n ∷ [])
unfolding entries_of entry_at
entries_last n t = entries_split n 1 t

-- row i is entry i
pub entries_at : (n i : ℕ) (t : List ℕ) (d : Entry) → i < n → get_or (entries_of n t) i d ≡ entry_at t i
unfolding entries_of
entries_at n i t d h =
    let k : ℕ = n - (i + 1) in
    let e : n ≡ i + suc k = omega arith in
    ap (λ (m : ℕ). get_or (entries_of m t) i d) e
    ∙ ap (λ (l : List Entry). get_or l i d) (entries_split i (suc k) t ∙ ap (λ (l : List Entry). entries_of i t ++ l) (entries_next k i t))
    ∙ get_or_at (entries_of i t) (entry_at t i) (entries_of k (drop (width * (i + 1)) t)) d i (length_entries i t)

-- ---- a row written

module _ (t : List ℕ) (i : ℕ) (e : Entry) (h : width * (i + 1) ≤ length t) where
  -- what the stores of an entry's numbers, one after the other, come to
  pub stores : set (set (set (set (set t (width * i) e.kind) (width * i + 1) e.start) (width * i + 2) e.end) (width * i + 3) e.detail) (width * i + 4) e.gap
      ≡ written t i e
  unfolding written
  stores =
      let w : width * i + width ≡ width * (i + 1) = omega arith in
      rw (add-one (width * i), add-two (width * i), add-three (width * i), add-four (width * i))
      (sets-eq (cells e) t (width * i) (omega arith) ∙ ap (λ (n : ℕ). take (width * i) t ++ cells e ++ drop n t) w)

  front_length : length (take (width * i) t) ≡ width * i
  front_length = length-take-le (width * i) t (omega arith)

  row_length : length (take (width * i) t ++ cells e) ≡ width * (i + 1)
  row_length = omega (arith, length-append (take (width * i) t) (cells e), front_length)

  pub length_written : length (written t i e) ≡ length t
  unfolding written
  length_written = omega (arith, length-append (take (width * i) t ++ cells e) (drop (width * (i + 1)) t), row_length, length-drop (width * (i + 1)) t)

  pub take_row : take (width * (i + 1)) (written t i e) ≡ take (width * i) t ++ cells e
  unfolding written
  take_row = take_at (take (width * i) t ++ cells e) (drop (width * (i + 1)) t) (width * (i + 1)) row_length

  -- the numbers in front stay as they were
  pub take_before : (n : ℕ) → n ≤ width * i → take n (written t i e) ≡ take n t
  take_before n l =
      sym (take-take n (width * (i + 1)) (written t i e) (omega arith))
      ∙ ap (take n) take_row
      ∙ take-append-le n (take (width * i) t) (cells e) (omega (arith, front_length))
      ∙ take-take n (width * i) t l

  -- and so do those behind
  pub drop_behind : (n : ℕ) → width * (i + 1) ≤ n → drop n (written t i e) ≡ drop n t
  unfolding written
  drop_behind n l =
      let k : ℕ = n - width * (i + 1) in
      let z : width * (i + 1) + k ≡ n = omega arith in
      let over : (s : List ℕ) → drop k (drop (width * (i + 1)) s) ≡ drop n s = λ s. drop-drop k (width * (i + 1)) s ∙ ap (λ (m : ℕ). drop m s) z in
      sym (over (written t i e))
      ∙ ap (drop k) (drop_at (take (width * i) t ++ cells e) (drop (width * (i + 1)) t) (width * (i + 1)) row_length)
      ∙ over t

  pub drop_here : drop (width * i) (written t i e) ≡ cells e ++ drop (width * (i + 1)) t
  unfolding written
  drop_here =
      ap (drop (width * i)) (append_assoc (take (width * i) t) (cells e) (drop (width * (i + 1)) t))
      ∙ drop_at (take (width * i) t) (cells e ++ drop (width * (i + 1)) t) (width * i) front_length

  pub entry_same : entry_at (written t i e) i ≡ e
  unfolding entry_at
  entry_same = ap entry_of drop_here

-- an entry is the first numbers of its row
entry_take : (s : List ℕ) → entry_of (take width s) ≡ entry_of s
entry_take [] = refl
entry_take (a ∷ []) = refl
entry_take (a ∷ b ∷ []) = refl
entry_take (a ∷ b ∷ c ∷ []) = refl
entry_take (a ∷ b ∷ c ∷ d ∷ []) = refl
entry_take (a ∷ b ∷ c ∷ d ∷ g ∷ s) = refl

row_slice : (n m : ℕ) (l : List ℕ) → take m (drop n l) ≡ drop n (take (n + m) l)
row_slice zero m l = let e : 0 + m ≡ m = omega arith in ap (λ (k : ℕ). take k l) (sym e)
row_slice (suc n) m [] = let e : suc n + m ≡ suc (n + m) = omega arith in take-nil m ∙ ap (λ (k : ℕ). drop (suc n) (take k [])) (sym e)
row_slice (suc n) m (x ∷ l) =
    let e : suc n + m ≡ suc (n + m) = omega arith in
    row_slice n m l ∙ ap (λ (k : ℕ). drop (suc n) (take k (x ∷ l))) (sym e)

-- tapes that agree in their first rows hold the same entry there
pub entry_agree : (j : ℕ) (t t' : List ℕ) → take (width * (j + 1)) t ≡ take (width * (j + 1)) t' → entry_at t j ≡ entry_at t' j
unfolding entry_at
entry_agree j t t' h =
    let w : width * j + width ≡ width * (j + 1) = omega arith in
    let row : (s : List ℕ) → entry_of (drop (width * j) (take (width * (j + 1)) s)) ≡ entry_of (drop (width * j) s) =
    λ s. ap (λ (k : ℕ). entry_of (drop (width * j) (take k s))) (sym w) ∙ ap entry_of (sym (row_slice (width * j) width s)) ∙ entry_take (drop (width * j) s) in
    sym (row t) ∙ ap (λ (l : List ℕ). entry_of (drop (width * j) l)) h ∙ row t'

-- the other rows are as they were
pub entry_other : (t : List ℕ) (i j : ℕ) (e : Entry) → width * (i + 1) ≤ length t → (j ≡ i → ⊥) → entry_at (written t i e) j ≡ entry_at t j
unfolding entry_at
entry_other t i j e h ne =
    either (lt_or_le i j)
    (λ l. ap entry_of (drop_behind t i e h (width * j) (omega arith)))
    (λ l. entry_agree j (written t i e) t (take_before t i e h (width * (j + 1)) (let k : j < i = omega arith in omega arith)))

-- ---- rows written one after the other

-- entries written from row i on
unfoldable pub writes : List Entry → ℕ → List ℕ → List ℕ
writes [] i t = t
writes (e ∷ es) i t = writes es (i + 1) (written t i e)

-- the rows in front as they were, the entries, and behind them what stood there
pub writes_all : (es : List Entry) (i : ℕ) (t : List ℕ) → width * (i + length es) ≤ length t
    → writes es i t ≡ take (width * i) t ++ flat es ++ drop (width * (i + length es)) t
unfolding writes flat
writes_all [] i t h =
    let z : i + 0 ≡ i = omega arith in
    sym (take-append-drop (width * i) t) ∙ ap₂ (λ (x : List ℕ) (k : ℕ). x ++ drop (width * k) t) (sym (append-nil (take (width * i) t))) (sym z)
writes_all (e ∷ es) i t h =
    let b : width * (i + 1) ≤ length t = omega arith in
    let l : length (written t i e) ≡ length t = length_written t i e b in
    let z : i + 1 + length es ≡ i + suc (length es) = omega arith in
    writes_all es (i + 1) (written t i e) (omega arith)
    ∙ ap₂ (λ (x y : List ℕ). x ++ flat es ++ y) (take_row t i e b) (drop_behind t i e b (width * (i + 1 + length es)) (omega arith))
    ∙ ap₂ (λ (x : List ℕ) (k : ℕ). x ++ drop (width * k) t) (append_assoc (take (width * i) t) (cells e) (flat es)) z

-- from the first row on
pub writes_front : (es : List Entry) (t : List ℕ) → width * length es ≤ length t → writes es 0 t ≡ flat es ++ drop (width * length es) t
writes_front es t h =
    let z : 0 + length es ≡ length es = omega arith in
    writes_all es 0 t (omega arith) ∙ ap (λ (k : ℕ). flat es ++ drop (width * k) t) z

-- the same in one word
pub writes_laid : (es : List Entry) (t : List ℕ) → width * length es ≤ length t → writes es 0 t ≡ laid es t
unfolding laid
writes_laid es t h = writes_front es t h

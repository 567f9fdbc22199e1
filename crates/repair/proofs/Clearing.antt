-- The part of the tape that is written anew, and the tape around it. Assumes nothing.
use Prim.Native.Nat.{◌*◌, ◌+◌, ◌-◌, ◌≤◌, suc, zero, ℕ}
use native.Mathlib.Omega.{arith}
use mathlib.Core.List.{◌++◌, append_assoc, List}
use mathlib.Core.Path.{◌∙◌, ◌≡◌, ap, ap₂, refl, sym}
use lib.ListN.{drop, length, length-append, length-drop, length-replicate, replicate, replicate-append-replicate, take}
use lib.Seq.{drop-append-add, drop-append-le, drop_at, drop-drop, length-take-le, take-add, take_at}
use Rattle.repair.proofs.Laying.{drop_front, laid_none}
use Rattle.repair.specs.Repair.{cleared, no_entry}
use Rattle.repair.specs.inner.Steps.{emptied, laid_at}
use Rattle.rows.proofs.RowLaws.{cells_take, flat_append, length_entries, length_flat}
use Rattle.rows.specs.Rows.{cells, entries_of, flat, laid, width}
use Rattle.rows.specs.declared.Entry.{Entry}
use Rattle.text.proofs.Choices.{either, lt_or_le}

-- ---- rows are their numbers

pub flat_take : (n : ℕ) (t : List ℕ) → width * n ≤ length t → flat (entries_of n t) ≡ take (width * n) t
unfolding flat entries_of
flat_take zero t h = refl
flat_take (suc n) t h =
    let w : width + width * n ≡ width * suc n = omega arith in
    ap₂ {B = List ℕ} {C = List ℕ} (λ (x y : List ℕ). x ++ y) (cells_take t (omega arith)) (flat_take n (drop width t) (omega (arith, length-drop width t)))
    ∙ sym (take-add width (width * n) t) ∙ ap (λ (k : ℕ). take k t) w

-- ---- zeros

flat_zeros : (n : ℕ) → flat (replicate n no_entry) ≡ replicate (width * n) 0
unfolding flat
flat_zeros zero = refl
flat_zeros (suc n) =
    let w : width + width * n ≡ width * suc n = omega arith in
    ap (λ (l : List ℕ). cells no_entry ++ l) (flat_zeros n) ∙ replicate-append-replicate width (width * n) 0 ∙ ap (λ (k : ℕ). replicate {A = ℕ} k 0) w

-- a row range filled with them is emptied
pub zeros_laid : (x y a n : ℕ) (t s : List ℕ) → x ≤ y → width * y ≤ length t → a ≡ width * x → a + n ≡ width * y → s ≡ replicate (length (take n (drop a t))) 0
    → take a t ++ (s ++ drop n (drop a t)) ≡ emptied x y t
unfolding laid_at
zeros_laid x y a n t s le fit ea en es =
    let k : length {A = Entry} (replicate (y - x) no_entry) ≡ y - x = length-replicate (y - x) no_entry in
    let u : a + n ≡ width * (x + length {A = Entry} (replicate (y - x) no_entry)) = omega arith in
    let v : length (take n (drop a t)) ≡ width * (y - x) = omega (arith, length-take-le n (drop a t) (omega (arith, length-drop a t))) in
    let z : s ≡ flat (replicate (y - x) no_entry) = es ∙ ap (λ (m : ℕ). replicate {A = ℕ} m 0) v ∙ sym (flat_zeros (y - x)) in
    let w : drop n (drop a t) ≡ drop (width * (x + length {A = Entry} (replicate (y - x) no_entry))) t = drop-drop n a t ∙ ap (λ (m : ℕ). drop m t) u in
    ap₂ (λ (h : List ℕ) (r : List ℕ). h ++ r) (ap (λ (m : ℕ). take m t) ea) (ap₂ (λ (h : List ℕ) (r : List ℕ). h ++ r) z w)
    ∙ sym (append_assoc (take (width * x) t) (flat (replicate (y - x) no_entry)) (drop (width * (x + length {A = Entry} (replicate (y - x) no_entry))) t))

-- no row is emptied behind the last
pub none_laid : (x y : ℕ) (t : List ℕ) → y ≤ x → t ≡ emptied x y t
none_laid x y t h = let z : y - x ≡ 0 = omega arith in sym (ap (λ (n : ℕ). laid_at x (replicate n no_entry) t) z ∙ laid_none x t)

drop_zeros : (n k : ℕ) → drop {A = ℕ} k (replicate n 0) ≡ replicate (n - k) 0
drop_zeros n zero = let z : n - 0 ≡ n = omega arith in ap (λ (m : ℕ). replicate {A = ℕ} m 0) (sym z)
drop_zeros zero (suc k) = let z : 0 - suc k ≡ 0 = omega arith in ap (λ (m : ℕ). replicate {A = ℕ} m 0) (sym z)
drop_zeros (suc n) (suc k) = let z : n - k ≡ suc n - suc k = omega arith in drop_zeros n k ∙ ap (λ (m : ℕ). replicate {A = ℕ} m 0) z

pub drop_cleared : (c k : ℕ) (t : List ℕ) → drop (width * k) (cleared c t) ≡ replicate (width * (c - k)) 0 ++ drop (width * (k + (c - k))) t
unfolding cleared
drop_cleared c k t =
    let l : length {A = ℕ} (replicate (width * c) 0) ≡ width * c = length-replicate (width * c) 0 in
    either (lt_or_le c k)
    (λ h.
    let m : ℕ = width * k - width * c in
    let z : length {A = ℕ} (replicate (width * c) 0) + m ≡ width * k = omega arith in
    let u : width * c + m ≡ width * (k + (c - k)) = omega arith in
    let v : width * (c - k) ≡ 0 = omega arith in
    ap (λ (n : ℕ). drop n (replicate (width * c) 0 ++ drop (width * c) t)) (sym z)
    ∙ drop-append-add (replicate (width * c) 0) (drop (width * c) t) m
    ∙ drop-drop m (width * c) t ∙ ap (λ (n : ℕ). drop n t) u
    ∙ ap (λ (n : ℕ). replicate n 0 ++ drop (width * (k + (c - k))) t) (sym v))
    (λ h.
    let u : width * c ≡ width * (k + (c - k)) = omega arith in
    let v : width * c - width * k ≡ width * (c - k) = omega arith in
    drop-append-le (width * k) (replicate (width * c) 0) (drop (width * c) t) (omega arith)
    ∙ ap₂ (λ (x : List ℕ) (n : ℕ). x ++ drop n t) (drop_zeros (width * c) (width * k) ∙ ap (λ (n : ℕ). replicate {A = ℕ} n 0) v) u)

-- entries laid over cleared rows
pub laid_cleared : (es : List Entry) (c k : ℕ) (t : List ℕ) → length es ≡ k → laid es (cleared c t) ≡ flat es ++ (replicate (width * (c - k)) 0 ++ drop (width * (k + (c - k))) t)
unfolding laid
laid_cleared es c k t h = ap (λ (n : ℕ). flat es ++ drop (width * n) (cleared c t)) h ∙ ap (λ (l : List ℕ). flat es ++ l) (drop_cleared c k t)

-- ---- the part: moved rows, new entries, zeros

module _ (part : List ℕ) (ns mv : List Entry) (n m c : ℕ) (en : length ns ≡ n) (em : length mv ≡ m) (room : width * (n + m) ≤ length part) (zeros : width * c ≤ length part) where
  abbrev whole : List ℕ
  whole = laid ns (laid_at n mv part)

  both_flat : flat ns ++ flat mv ≡ flat (ns ++ mv)
  both_flat = sym (flat_append ns mv)

  count : length (ns ++ mv) ≡ n + m
  count = length-append ns mv ∙ ap₂ (λ (x y : ℕ). x + y) en em

  filled_is : whole ≡ flat (ns ++ mv) ++ drop (width * (n + m)) part
  unfolding laid
  filled_is =
      ap (λ (k : ℕ). flat ns ++ drop (width * k) (laid_at n mv part)) en
      ∙ ap (λ (l : List ℕ). flat ns ++ l) (drop_front n mv part (omega arith) ∙ ap (λ (k : ℕ). flat mv ++ drop (width * (n + k)) part) em)
      ∙ sym (append_assoc (flat ns) (flat mv) (drop (width * (n + m)) part))
      ∙ ap (λ (l : List ℕ). l ++ drop (width * (n + m)) part) both_flat

  flat_length : length (flat (ns ++ mv)) ≡ width * (n + m)
  flat_length = length_flat (ns ++ mv) ∙ ap (λ (k : ℕ). width * k) count

  pub part_is : emptied (n + m) c whole ≡ laid (ns ++ mv) (cleared c part)
  unfolding laid_at
  part_is =
      let z : ℕ = c - (n + m) in
      let lz : length (replicate z no_entry) ≡ z = length-replicate z no_entry in
      let w : width * (n + m) + width * z ≡ width * (n + m + z) = omega arith in
      ap (λ (k : ℕ). take (width * (n + m)) whole ++ flat (replicate z no_entry) ++ drop (width * (n + m + k)) whole) lz
      ∙ ap₂ (λ (x y : List ℕ). x ++ flat (replicate z no_entry) ++ y)
      (ap (take (width * (n + m))) filled_is ∙ take_at (flat (ns ++ mv)) (drop (width * (n + m)) part) (width * (n + m)) flat_length)
      (ap (λ (k : ℕ). drop k whole) (sym w) ∙ sym (drop-drop (width * z) (width * (n + m)) whole)
      ∙ ap (drop (width * z)) (ap (drop (width * (n + m))) filled_is ∙ drop_at (flat (ns ++ mv)) (drop (width * (n + m)) part) (width * (n + m)) flat_length)
      ∙ drop-drop (width * z) (width * (n + m)) part ∙ ap (λ (k : ℕ). drop k part) w)
      ∙ append_assoc (flat (ns ++ mv)) (flat (replicate z no_entry)) (drop (width * (n + m + z)) part)
      ∙ ap (λ (l : List ℕ). flat (ns ++ mv) ++ (l ++ drop (width * (n + m + z)) part)) (flat_zeros z)
      ∙ sym (laid_cleared (ns ++ mv) c (n + m) part count)

-- ---- the tape around it

pub tape_is : (t : List ℕ) (es : List Entry) (j c : ℕ) → width * j ≤ length t → take (width * j) t ++ laid es (cleared c (drop (width * j) t)) ≡ laid (entries_of j t ++ es) (cleared (j + c) t)
tape_is t es j c h =
    let k : ℕ = length es in
    let z : ℕ = c - k in
    let n : length (entries_of j t ++ es) ≡ j + k = length-append (entries_of j t) es ∙ ap (λ (x : ℕ). x + k) (length_entries j t) in
    let a : c - k ≡ j + c - (j + k) = omega arith in
    let b : width * j + width * (k + z) ≡ width * (j + k + (j + c - (j + k))) = omega arith in
    ap (λ (l : List ℕ). take (width * j) t ++ l) (laid_cleared es c k (drop (width * j) t) refl)
    ∙ ap (λ (l : List ℕ). l ++ (flat es ++ (replicate (width * z) 0 ++ drop (width * (k + z)) (drop (width * j) t)))) (sym (flat_take j t h))
    ∙ sym (append_assoc (flat (entries_of j t)) (flat es) (replicate (width * z) 0 ++ drop (width * (k + z)) (drop (width * j) t)))
    ∙ ap (λ (l : List ℕ). l ++ (replicate (width * z) 0 ++ drop (width * (k + z)) (drop (width * j) t))) (sym (flat_append (entries_of j t) es))
    ∙ ap₂ (λ (x : ℕ) (y : List ℕ). flat (entries_of j t ++ es) ++ (replicate (width * x) 0 ++ y)) a (drop-drop (width * (k + z)) (width * j) t ∙ ap (λ (x : ℕ). drop x t) b)
    ∙ sym (laid_cleared (entries_of j t ++ es) (j + c) (j + k) t n)

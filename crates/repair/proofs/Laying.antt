-- Entries laid on a tape from a row on, and the loops that move and clear rows. Assumes nothing.
use Prim.Native.Nat.{◌*◌, ◌+◌, ◌-◌, ◌<◌, ◌≤◌, suc, ℕ}
use native.Mathlib.Numerals.{add-one}
use native.Mathlib.Omega.{arith}
use mathlib.Core.List.{[], ◌++◌, ◌∷◌, append_assoc, append-nil, map, List}
use mathlib.Core.Path.{◌∙◌, ◌≡◌, ap, ap₂, refl, subst, sym}
use lib.ListN.{drop, drop_of_length-le, length, length-append, length-drop, length-map, take, take-append-drop}
use lib.Seq.{drop_at, drop-cons, drop-drop, length-take-le, take-append-le, take_at, take-take}
use Rattle.repair.specs.Repair.{no_entry}
use Rattle.repair.specs.inner.Steps.{Movable, MovableRow, clipped, clipped_from, laid_at, shifted}
use Rattle.rows.proofs.RowLaws.{entries_at, entries_last, entry_agree, entry_part, flat_append, length_entries, length_flat}
use Rattle.rows.specs.Rows.{cells, entries_of, entry_at, entry_of, flat, width, written}
use Rattle.rows.specs.declared.Entry.{Entry}

module _ (g : ℕ) (es : List Entry) (t : List ℕ) (h : width * (g + length es) ≤ length t) where
  front_length : length (take (width * g) t ++ flat es) ≡ width * (g + length es)
  front_length = omega (arith, length-append (take (width * g) t) (flat es), length-take-le (width * g) t (omega arith), length_flat es)

  pub length_laid : length (laid_at g es t) ≡ length t
  unfolding laid_at
  length_laid = omega (arith, length-append (take (width * g) t ++ flat es) (drop (width * (g + length es)) t), front_length, length-drop (width * (g + length es)) t)

  take_laid : take (width * (g + length es)) (laid_at g es t) ≡ take (width * g) t ++ flat es
  unfolding laid_at
  take_laid = take_at (take (width * g) t ++ flat es) (drop (width * (g + length es)) t) (width * (g + length es)) front_length

  -- behind them stands what stood there
  pub drop_laid : (n : ℕ) → width * (g + length es) ≤ n → drop n (laid_at g es t) ≡ drop n t
  unfolding laid_at
  drop_laid n l =
      let m : ℕ = width * (g + length es) in
      let k : ℕ = n - m in
      let z : m + k ≡ n = omega arith in
      let over : (s : List ℕ) → drop k (drop m s) ≡ drop n s = λ s. drop-drop k m s ∙ ap (λ (j : ℕ). drop j s) z in
      sym (over (laid_at g es t)) ∙ ap (drop k) (drop_at (take (width * g) t ++ flat es) (drop m t) m front_length) ∙ over t

  -- and so it does in front
  pub take_front : (n : ℕ) → n ≤ width * g → take n (laid_at g es t) ≡ take n t
  take_front n l =
      sym (take-take n (width * (g + length es)) (laid_at g es t) (omega arith))
      ∙ ap (take n) take_laid
      ∙ take-append-le n (take (width * g) t) (flat es) (omega (arith, length-take-le (width * g) t (omega arith)))
      ∙ take-take n (width * g) t l

  -- from row g on
  pub drop_front : drop (width * g) (laid_at g es t) ≡ flat es ++ drop (width * (g + length es)) t
  unfolding laid_at
  drop_front =
      ap (drop (width * g)) (append_assoc (take (width * g) t) (flat es) (drop (width * (g + length es)) t))
      ∙ drop_at (take (width * g) t) (flat es ++ drop (width * (g + length es)) t) (width * g) (length-take-le (width * g) t (omega arith))

pub laid_none : (g : ℕ) (t : List ℕ) → laid_at g [] t ≡ t
unfolding laid_at flat
laid_none g t =
    let z : g + 0 ≡ g = omega arith in
    ap₂ (λ (x : List ℕ) (k : ℕ). x ++ drop (width * k) t) (append-nil (take (width * g) t)) z ∙ take-append-drop (width * g) t

-- one entry more behind
pub laid_next : (g : ℕ) (es : List Entry) (t : List ℕ) (i : ℕ) (x : Entry) → i ≡ g + length es → width * (i + 1) ≤ length t → written (laid_at g es t) i x ≡ laid_at g (es ++ (x ∷ [])) t
unfolding written laid_at flat
laid_next g es t i x is h =
    let fit : width * (g + length es) ≤ length t = omega arith in
    let l : length (es ++ (x ∷ [])) ≡ length es + 1 = length-append es (x ∷ []) in
    let a : g + length (es ++ (x ∷ [])) ≡ i + 1 = omega arith in
    ap₂ (λ (u v : List ℕ). u ++ cells x ++ v)
    (ap (λ (k : ℕ). take (width * k) (laid_at g es t)) is ∙ take_laid g es t fit)
    (drop_laid g es t fit (width * (i + 1)) (omega arith))
    ∙ ap (λ (u : List ℕ). u ++ drop (width * (i + 1)) t) (append_assoc (take (width * g) t) (flat es) (cells x))
    ∙ ap₂ (λ (u : List ℕ) (k : ℕ). take (width * g) t ++ u ++ drop (width * k) t) (sym (flat_append es (x ∷ []) ∙ ap (λ (u : List ℕ). flat es ++ u) (append-nil (cells x)))) (sym a)

-- one entry more in front
pub laid_before : (g : ℕ) (es : List Entry) (t : List ℕ) (i : ℕ) (x : Entry) → g ≡ i + 1 → width * (g + length es) ≤ length t → written (laid_at g es t) i x ≡ laid_at i (x ∷ es) t
unfolding written laid_at flat
laid_before g es t i x is h =
    let a : g + length es ≡ i + suc (length es) = omega arith in
    ap₂ (λ (u v : List ℕ). u ++ cells x ++ v)
    (take_front g es t h (width * i) (omega arith))
    (ap (λ (k : ℕ). drop (width * k) (laid_at g es t)) (sym is) ∙ drop_front g es t h)
    ∙ sym (append_assoc (take (width * i) t ++ cells x) (flat es) (drop (width * (g + length es)) t))
    ∙ ap₂ (λ (u : List ℕ) (k : ℕ). u ++ drop (width * k) t) (append_assoc (take (width * i) t) (cells x) (flat es)) a

-- ---- ups rows

map_last : (f : Entry → Entry) (l : List Entry) (x : Entry) → map f (l ++ (x ∷ [])) ≡ map f l ++ (f x ∷ [])
map_last f [] x = refl
map_last f (y ∷ l) x = ap {B = List Entry} (λ (z : List Entry). f y ∷ z) (map_last f l x)

pub row_moved : (b e f g : ℕ) (t t' : List ℕ) (x : Entry) (s n : ℕ) → x ≡ entry_at t f → s ≡ clipped b e x.start → n ≡ clipped b e x.end
    → t' ≡ written t g (record { kind = x.kind; start = s; end = n; detail = x.detail; gap = x.gap }) → t' ≡ written t g (clipped_from b e (entry_at t f))
row_moved b e f g t t' x s n is es en w =
    w ∙ ap₂ (λ (u v : ℕ). written t g (record { kind = x.kind; start = u; end = v; detail = x.detail; gap = x.gap })) es en
    ∙ ap (λ (y : Entry). written t g (clipped_from b e y)) is

module _ (b e m f g : ℕ) (t : List ℕ) where
  abbrev pub Up : ℕ → List ℕ → Type 0
  Up k s = s ≡ shifted b e k f g t

  abbrev ups : ℕ → List Entry
  ups k = map (clipped_from b e) (entries_of k (drop (width * f) t))

  count_ups : (k : ℕ) → length (ups k) ≡ k
  count_ups k = length-map (entries_of k (drop (width * f) t)) (clipped_from b e) ∙ length_entries k (drop (width * f) t)

  pub up_starts : Up 0 t
  unfolding entries_of
  up_starts = sym (laid_none g t)

  -- the row to be moved next is as it was
  up_here : (k : ℕ) (s : List ℕ) → g ≤ f → width * (f + k + 1) ≤ length t → Up k s → entry_at s (f + k) ≡ entry_at (drop (width * f) t) k
  unfolding entry_at
  up_here k s gf h inv =
      let c = count_ups k in
      ap (λ (u : List ℕ). entry_at u (f + k)) inv ∙ ap entry_of (drop_laid g (ups k) t (omega arith) (width * (f + k)) (omega arith)) ∙ sym (entry_part f k t)

  -- and may be moved
  row_movable : (k : ℕ) (x : Entry) → k < m → x ≡ entry_at (drop (width * f) t) k → Movable b e (entries_of m (drop (width * f) t)) → MovableRow b e x
  row_movable k x h is v =
      subst (MovableRow b e) (entries_at m k (drop (width * f) t) no_entry h ∙ sym is) (v k (omega (arith, length_entries m (drop (width * f) t))))

  pub up_movable : (k : ℕ) (s : List ℕ) → k < m → g ≤ f → width * (f + k + 1) ≤ length t → Movable b e (entries_of m (drop (width * f) t)) → Up k s → MovableRow b e (entry_at s (f + k))
  up_movable k s l gf h v inv = row_movable k (entry_at s (f + k)) l (up_here k s gf h inv) v

  pub up_goes : (k : ℕ) (s s' : List ℕ) → g ≤ f → width * (f + k + 1) ≤ length t → Up k s → s' ≡ written s (g + k) (clipped_from b e (entry_at s (f + k))) → Up (k + 1) s'
  up_goes k s s' gf h inv w =
      let c = count_ups k in
      w
      ∙ ap₂ (λ (u : List ℕ) (x : Entry). written u (g + k) (clipped_from b e x)) inv (up_here k s gf h inv)
      ∙ laid_next g (ups k) t (g + k) (clipped_from b e (entry_at (drop (width * f) t) k)) (omega arith) (omega arith)
      ∙ ap (λ (l : List Entry). laid_at g l t) (sym (map_last (clipped_from b e) (entries_of k (drop (width * f) t)) (entry_at (drop (width * f) t) k)) ∙ ap (map (clipped_from b e)) (sym (entries_last k (drop (width * f) t))))

  abbrev rest : ℕ → List Entry
  rest k = map (clipped_from b e) (drop k (entries_of m (drop (width * f) t)))

  abbrev pub Down : ℕ → List ℕ → Type 0
  Down k s = s ≡ laid_at (g + k) (map (clipped_from b e) (drop k (entries_of m (drop (width * f) t)))) t

  count_rest : (k : ℕ) → length (rest k) ≡ m - k
  count_rest k =
      length-map (drop k (entries_of m (drop (width * f) t))) (clipped_from b e)
      ∙ length-drop k (entries_of m (drop (width * f) t)) ∙ ap (λ (n : ℕ). n - k) (length_entries m (drop (width * f) t))

  pub down_starts : Down m t
  down_starts =
      let z : drop m (entries_of m (drop (width * f) t)) ≡ [] = drop_of_length-le (entries_of m (drop (width * f) t)) {i = m} (omega (arith, length_entries m (drop (width * f) t))) in
      sym (ap (λ (l : List Entry). laid_at (g + m) (map (clipped_from b e) l) t) z ∙ laid_none (g + m) t)

  down_here : (k j : ℕ) (s : List ℕ) → k ≡ j + 1 → k ≤ m → f ≤ g → width * (g + m) ≤ length t → Down k s → entry_at s (f + j) ≡ entry_at t (f + j)
  down_here k j s kj l fg h inv =
      let c = count_rest k in
      let fit : width * (g + k + length (rest k)) ≤ length t = omega arith in
      ap (λ (u : List ℕ). entry_at u (f + j)) inv
      ∙ entry_agree (f + j) (laid_at (g + k) (rest k) t) t (take_front (g + k) (rest k) t fit (width * (f + j + 1)) (omega arith))

  pub down_movable : (k j : ℕ) (s : List ℕ) → k ≡ j + 1 → k ≤ m → f ≤ g → width * (g + m) ≤ length t → Movable b e (entries_of m (drop (width * f) t)) → Down k s → MovableRow b e (entry_at s (f + j))
  down_movable k j s kj l fg h v inv = row_movable j (entry_at s (f + j)) (omega arith) (down_here k j s kj l fg h inv ∙ sym (entry_part f j t)) v

  pub down_goes : (k j : ℕ) (s s' : List ℕ) → k ≡ j + 1 → k ≤ m → f ≤ g → width * (g + m) ≤ length t → Down k s → s' ≡ written s (g + j) (clipped_from b e (entry_at s (f + j))) → Down j s'
  down_goes k j s s' kj l fg h inv w =
      let c = count_rest k in
      let rows : List Entry = entries_of m (drop (width * f) t) in
      let fit : width * (g + k + length (rest k)) ≤ length t = omega arith in
      let first : drop j rows ≡ entry_at t (f + j) ∷ drop k rows =
      drop-cons rows j no_entry (omega (arith, length_entries m (drop (width * f) t)))
      ∙ ap₂ {B = ℕ} {C = List Entry} (λ (x : Entry) (n : ℕ). x ∷ drop n rows) (entries_at m j (drop (width * f) t) no_entry (omega arith) ∙ entry_part f j t) (sym (add-one j) ∙ sym kj) in
      w
      ∙ ap₂ (λ (u : List ℕ) (x : Entry). written u (g + j) (clipped_from b e x)) inv (down_here k j s kj l fg h inv)
      ∙ laid_before (g + k) (rest k) t (g + j) (clipped_from b e (entry_at t (f + j))) (omega arith) fit
      ∙ ap (λ (d : List Entry). laid_at (g + j) (map (clipped_from b e) d) t) (sym first)

  pub up_ends : (k : ℕ) (s : List ℕ) → k ≡ m → Up k s → s ≡ shifted b e m f g t
  up_ends k s h inv = inv ∙ ap (λ (n : ℕ). shifted b e n f g t) h

  down_zero : (s : List ℕ) → Down 0 s → s ≡ shifted b e m f g t
  down_zero s inv = let z : g + 0 ≡ g = omega arith in inv ∙ ap (λ (n : ℕ). laid_at n (map (clipped_from b e) (entries_of m (drop (width * f) t))) t) z

  pub down_ends : (k : ℕ) (s : List ℕ) → k ≤ 0 → Down k s → s ≡ shifted b e m f g t
  down_ends k s h inv = let z : k ≡ 0 = omega arith in down_zero s (inv ∙ ap (λ (n : ℕ). laid_at (g + n) (rest n) t) z)

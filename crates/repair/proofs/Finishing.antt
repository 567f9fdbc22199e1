-- The ways out of a repair. Assumes nothing.
use Rattle.std.proofs.Common.{Ok, Err}
use Prim.Native.Nat.{◌*◌, ◌+◌, ◌-◌, ◌<◌, ◌≤◌, ℕ}
use native.Mathlib.Omega.{arith}
use mathlib.Core.Bool.{Bool, cond, true, false}
use mathlib.Core.List.{[], ◌++◌, ◌∷◌, append-nil, map, List}
use mathlib.Core.Path.{subst, ◌∙◌, ◌≡◌, ap, ap₂, refl, sym}
use lib.Dec.{ltb}
use lib.ListN.{drop, drop_of_length-le, length, length-drop, take}
use lib.Seq.{drop-drop}
use borrow.Author.Tests.{le-ltb, lt-ltb}
use Rattle.reading.specs.Readings.{entries, read_from}
use Rattle.repair.proofs.Checks.{Fits, fits_true}
use Rattle.repair.proofs.Clearing.{tape_is}
use Rattle.repair.proofs.Finding.{join_behind, join_le}
use Rattle.repair.proofs.Rows.{entries_drop, entries_take}
use Rattle.repair.specs.Repair.{answer_by, cleared, entries_by, found_of, kept_of, moved_from, new_end, repair_answer_of, repair_fits, repair_tape_of, resume_at, tape_by}
use Rattle.repair.specs.declared.repairer.Repaired.{Repaired}
use Rattle.repair.specs.inner.Steps.{Movable, clipped, clipped_from, finish_answer, finish_tape}
use Rattle.repair.specs.declared.rewrite.Rest.{Rest}
use Rattle.rows.proofs.OrderLaws.{in_order_drop, in_order_first, in_order_within}
use Rattle.rows.specs.Order.{in_order, in_order_from}
use Rattle.rows.specs.Rows.{entries_of, laid, room_of, width}
use Rattle.rows.specs.declared.Entry.{Entry}
use Rattle.text.proofs.Choices.{cond_cases}
use Rattle.text.proofs.Lists.{tail_part}
use Rattle.text.proofs.Stops.{part}
use Rattle.text.specs.Refusals.{no_room, not_in_order, Told}
use Rattle.text.specs.declared.refusal.Refusal.{Refusal}
use Rattle.tokens.specs.Ron.{ron_token}

-- ---- the last step

module _ (t : List ℕ) (j : ℕ) (text : List ℕ) (rest : Rest) where
  pub finish_full : room_of (length t) < j + rest.n + rest.m → (Err no_room ≡ finish_answer (room_of (length t)) j rest) × (t ≡ finish_tape t j text rest)
  finish_full h = (rw (lt-ltb (room_of (length t)) (j + rest.n + rest.m) h), rw (lt-ltb (room_of (length t)) (j + rest.n + rest.m) h))

  pub finish-answer : j + rest.n + rest.m ≤ room_of (length t)
      → Ok (record { count = j + rest.n + rest.m; before = j; behind = rest.m }) ≡ finish_answer (room_of (length t)) j rest
  finish-answer h = rw (le-ltb (room_of (length t)) (j + rest.n + rest.m) h)

  -- what the lent part comes to
  abbrev pub anew : List ℕ → List ℕ
  anew part = laid (take rest.n (entries (read_from ron_token text rest.from)) ++ map (clipped_from rest.b rest.e) (entries_of rest.m (drop (width * rest.f) part))) (cleared (rest.f + rest.m) part)

  -- its rows to be moved are the tape's
  pub part_movable : (x : ℕ) → x ≡ width * j → Movable rest.b rest.e (entries_of rest.m (drop (width * (j + rest.f)) t)) → Movable rest.b rest.e (entries_of rest.m (drop (width * rest.f) (take (length t - x) (drop x t))))
  part_movable x ex v =
      let w : x + width * rest.f ≡ width * (j + rest.f) = omega arith in
      let same : drop (width * rest.f) (take (length t - x) (drop x t)) ≡ drop (width * (j + rest.f)) t = ap (drop (width * rest.f)) (tail_part t x) ∙ drop-drop (width * rest.f) x t ∙ ap (λ (k : ℕ). drop k t) w in
      subst (λ (l : List ℕ). Movable rest.b rest.e (entries_of rest.m l)) (sym same) v

  pub finish-tape : j + rest.n + rest.m ≤ room_of (length t) → width * j ≤ length t → (x : ℕ) → x ≡ width * j → (s : List ℕ) → s ≡ anew (take (length t - x) (drop x t))
      → take x t ++ (s ++ drop (length t - x) (drop x t)) ≡ finish_tape t j text rest
  finish-tape h l x ex s es =
      let none : drop (length t - x) (drop x t) ≡ [] = drop_of_length-le (drop x t) {i = length t - x} (omega (arith, length-drop x t)) in
      let w : width * j + width * rest.f ≡ width * (j + rest.f) = omega arith in
      let new : List Entry = take rest.n (entries (read_from ron_token text rest.from)) in
      ap (λ (u : List ℕ). take x t ++ (s ++ u)) none
      ∙ ap (λ (u : List ℕ). take x t ++ u) (append-nil s ∙ es ∙ ap anew (tail_part t x))
      ∙ ap (λ (k : ℕ). take k t ++ anew (drop k t)) ex
      ∙ tape_is t (new ++ map (clipped_from rest.b rest.e) (entries_of rest.m (drop (width * rest.f) (drop (width * j) t)))) j (rest.f + rest.m) l
      ∙ ap (λ (u : List ℕ). laid (entries_of j t ++ (new ++ map (clipped_from rest.b rest.e) (entries_of rest.m u))) (cleared (j + (rest.f + rest.m)) t)) (drop-drop (width * rest.f) (width * j) t ∙ ap (λ (k : ℕ). drop k t) w)
      ∙ sym (ap (λ (c : Bool). cond c t (laid (entries_of j t ++ (new ++ map (clipped_from rest.b rest.e) (entries_of rest.m (drop (width * (j + rest.f)) t)))) (cleared (j + (rest.f + rest.m)) t))) (le-ltb (room_of (length t)) (j + rest.n + rest.m) h))

-- ---- moved as far as the numbers fit is moved

clip_fits : (b e : ℕ) (l : List Entry) (at o : ℕ) → in_order_from l at o ≡ true → o + e ≤ b + 65536 → map (clipped_from b e) l ≡ map (moved_from b e) l
clip_fits b e [] at o h k = refl
clip_fits b e (x ∷ l) at o h k =
    let p = in_order_first x l at o h in
    let w = in_order_within l x.end o p.1 in
    let s : clipped b e x.start ≡ x.start + e - b = omega (arith, p.0.some) in
    let n : clipped b e x.end ≡ x.end + e - b = omega arith in
    ap₂ {B = List Entry} {C = List Entry} (λ (y : Entry) (z : List Entry). y ∷ z)
    (ap₂ (λ (u v : ℕ). record { kind = x.kind; start = u; end = v; detail = x.detail; gap = x.gap }) s n)
    (clip_fits b e l x.end o p.1 k)

-- ---- the ways out of the whole

module _ (t : List ℕ) (count o a b : ℕ) (text : List ℕ) where
  abbrev old : List Entry
  old = entries_of count t

  abbrev j : ℕ
  j = kept_of (entries_of count t) a text

  abbrev e : ℕ
  e = new_end o b (length text)

  abbrev pub Outcome : Told Repaired → List ℕ → Type 0
  Outcome r t' = (r ≡ repair_answer_of t count o a b text) × (t' ≡ repair_tape_of t count o a b text)

  refuses : (r : Refusal) → repair_answer_of t count o a b text ≡ Err r → Outcome (Err r) t
  unfolding repair_tape_of
  refuses r h = (sym h, sym (ap (λ (x : Told Repaired). tape_by x (found_of old j b e text) t count j b e text) h))

  pub out_unfit : repair_fits t count o a b (length text) ≡ false → Outcome (Err not_in_order) t
  unfolding repair_answer_of
  out_unfit h = refuses not_in_order (ap (λ (c : Bool). cond c (answer_by (room_of (length t)) count j (found_of old j b e text)) (Err not_in_order)) h)

  module _ (ok : repair_fits t count o a b (length text) ≡ true) where
    abbrev F : Fits t count o a b (length text)
    F = fits_true t count o a b (length text) ok

    by_found : (s : Told (ℕ × ℕ)) → found_of old j b e text ≡ s → repair_answer_of t count o a b text ≡ answer_by (room_of (length t)) count j s
    unfolding repair_answer_of
    by_found s h = ap (λ (c : Bool). cond c (answer_by (room_of (length t)) count j (found_of old j b e text)) (Err not_in_order)) ok ∙ ap (answer_by (room_of (length t)) count j) h

    pub out_refused : (r : Refusal) → found_of (entries_of count t) (kept_of (entries_of count t) a text) b (new_end o b (length text)) text ≡ Err r → Outcome (Err r) t
    out_refused r h = refuses r (by_found (Err r) h)

    module _ (m i : ℕ) (h : found_of (entries_of count t) (kept_of (entries_of count t) a text) b (new_end o b (length text)) text ≡ Ok (m, i)) (short : length text ≤ 65536) where
      abbrev together : ℕ
      together = j + m + (count - i)

      -- the rest of the tape, as the last step takes it
      abbrev pub rest_of : ℕ → Rest
      rest_of p = record { from = p; n = m; f = i - kept_of (entries_of count t) a text; m = count - i; b = b; e = new_end o b (length text) }

      abbrev lies : List Entry → List ℕ
      lies l = laid l (cleared count t)

      tape_full : ltb (room_of (length t)) together ≡ true → repair_tape_of t count o a b text ≡ t
      unfolding repair_tape_of
      tape_full g = ap (λ (x : Told Repaired). tape_by x (found_of old j b e text) t count j b e text) (by_found (Ok (m, i)) h ∙ ap (λ (c : Bool). cond c (Err no_room) (Ok (record { count = together; before = j; behind = count - i }))) g)

      tape_done : ltb (room_of (length t)) together ≡ false → repair_tape_of t count o a b text ≡ lies (entries_by old j m i b e text)
      unfolding repair_tape_of
      tape_done g =
          ap (λ (x : Told Repaired). tape_by x (found_of old j b e text) t count j b e text) (by_found (Ok (m, i)) h ∙ ap (λ (c : Bool). cond c (Err no_room) (Ok (record { count = together; before = j; behind = count - i }))) g)
          ∙ ap (λ (s : Told (ℕ × ℕ)). tape_by (Ok (record { count = together; before = j; behind = count - i })) s t count j b e text) h

      moved_same : map (clipped_from b e) (drop i old) ≡ map (moved_from b e) (drop i old)
      unfolding in_order
      moved_same =
          let d = in_order_drop old 0 o i F.sorted in
          clip_fits b e (drop i old) d.0 o d.1 (omega (arith, F.cuts.in_old, F.cuts.lengths, short))

      rows_same : (p : ℕ) → p ≡ resume_at old j
          → entries_of j t ++ (take m (entries (read_from ron_token text p)) ++ map (clipped_from b e) (entries_of (count - i) (drop (width * (j + (i - j))) t))) ≡ entries_by old j m i b e text
      rows_same p ep =
          let ji = join_behind t count o a b text F m i h in
          let ic = join_le t count o a b text F m i h in
          let z : j + (i - j) ≡ i = omega arith in
          ap₂ {B = List Entry} {C = List Entry} (λ (u v : List Entry). u ++ v) (sym (entries_take count j t (omega arith)))
          (ap₂ {B = List Entry} {C = List Entry} (λ (u v : List Entry). u ++ v) (ap (λ (x : ℕ). take m (entries (read_from ron_token text x))) ep)
          (ap (λ (k : ℕ). map (clipped_from b e) (entries_of (count - i) (drop (width * k) t))) z ∙ ap (map (clipped_from b e)) (sym (entries_drop count i t ic)) ∙ moved_same))

      count_same : j + (i - j + (count - i)) ≡ count
      count_same = omega (arith, join_behind t count o a b text F m i h, join_le t count o a b text F m i h)

      tape_same : (p : ℕ) → p ≡ resume_at old j → finish_tape t j text (rest_of p) ≡ repair_tape_of t count o a b text
      tape_same p ep =
          let whole : laid (entries_of j t ++ (take m (entries (read_from ron_token text p)) ++ map (clipped_from b e) (entries_of (count - i) (drop (width * (j + (i - j))) t)))) (cleared (j + (i - j + (count - i))) t) ≡ lies (entries_by old j m i b e text) =
          ap₂ (λ (u : List Entry) (k : ℕ). laid u (cleared k t)) (rows_same p ep) count_same in
          ap (cond (ltb (room_of (length t)) together) t) whole
          ∙ cond_cases (λ (x : List ℕ). x ≡ repair_tape_of t count o a b text) (ltb (room_of (length t)) together) t (lies (entries_by old j m i b e text)) (λ g. sym (tape_full g)) (λ g. sym (tape_done g))

      pub out_found : (p : ℕ) → p ≡ resume_at (entries_of count t) (kept_of (entries_of count t) a text) → (r : Told Repaired) (t' : List ℕ)
          → (r ≡ finish_answer (room_of (length t)) (kept_of (entries_of count t) a text) (rest_of p)) × (t' ≡ finish_tape t (kept_of (entries_of count t) a text) text (rest_of p)) → Outcome r t'
      out_found p ep r t' w = (w.0 ∙ sym (by_found (Ok (m, i)) h), w.1 ∙ tape_same p ep)

      -- the same in the values that the code has
      abbrev pub rest_at : ℕ → ℕ → Rest
      rest_at x p = record { from = p; n = m; f = i - x; m = count - i; b = b; e = new_end o b (length text) }

      pub out_done : (j' p : ℕ) → j' ≡ kept_of (entries_of count t) a text → p ≡ resume_at (entries_of count t) (kept_of (entries_of count t) a text) → (r : Told Repaired) (t' : List ℕ)
          → (r ≡ finish_answer (room_of (length t)) j' (rest_at j' p)) × (t' ≡ finish_tape t j' text (rest_at j' p)) → Outcome r t'
      out_done j' p ej ep r t' w = out_found p ep r t' (subst (λ (x : ℕ). (r ≡ finish_answer (room_of (length t)) x (rest_at x p)) × (t' ≡ finish_tape t x text (rest_at x p))) ej w)

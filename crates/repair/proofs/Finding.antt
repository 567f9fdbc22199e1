-- What a repair finds lies within its text and tape, whatever the tape in order is. Assumes nothing.
use Rattle.std.proofs.Common.{Ok}
use Rattle.text.specs.Refusals.{Told}
use Prim.Native.Nat.{◌*◌, ◌+◌, ◌-◌, ◌<◌, ◌≤◌, suc, ℕ}
use native.Mathlib.Omega.{arith}
use mathlib.Core.Bool.{false, Bool, ◌&&◌, cond, true}
use mathlib.Core.List.{List, [], ◌∷◌}
use mathlib.Core.Path.{◌≡◌, ap, refl, subst, sym, ◌∙◌}
use lib.Dec.{eqb, leb, ltb}
use lib.ListN.{drop, get_or, length, length-drop, length-take, take}
use lib.Seq.{get_or-drop}
use borrow.Author.Tests.{eqb-true, leb-true, lt-ltb, ltb-true}
use Rattle.reading.proofs.QuietLaws.{last_le}
use Rattle.reading.specs.Kept.{last_quiet}
use Rattle.reading.specs.Owed.{quiet_byte}
use Rattle.reading.specs.Readings.{Reading, end_of, entries, read_from}
use Rattle.reading.specs.Readings.Reading.{broken, complete, entry}
use Rattle.repair.proofs.Checks.{Fits}
use Rattle.repair.proofs.Leading.{lead_at, lead_le}
use Rattle.repair.specs.Repair.{ends_before, found_of, joins, kept_of, leading, moved_at, new_end, no_entry, resume_at, scan_of, seek_of}
use Rattle.repair.specs.inner.Steps.{Movable, MovableRow, starts_before}
use Rattle.rows.proofs.OrderLaws.{in_order_first, in_order_rise, in_order_row}
use Rattle.rows.proofs.RowLaws.{length_entries}
use Rattle.rows.specs.Order.{in_order, in_order_from}
use Rattle.rows.specs.Rows.{entries_of, width}
use Rattle.rows.specs.declared.Entry.{Entry}
use Rattle.text.proofs.Choices.{and_true, either, lt_or_le}
use Rattle.tokens.specs.Ron.{ron_token}
use Rattle.repair.proofs.Rows.{entries_drop, entries_take}

-- ---- readings

-- ---- the place to go on from

resume_le : (q x : ℕ) (l : List Entry) (at : ℕ) → at ≤ x → q ≤ x → end_of at (take (leading (ends_before q) l) l) ≤ x
unfolding leading end_of
resume_le q x [] at h k = h
resume_le q x (y ∷ l) at h k = go (ends_before q y) refl (λ p. resume_le q x l y.end p k)
  where
    go : (t : Bool) → ends_before q y ≡ t → (y.end ≤ x → end_of y.end (take (leading (ends_before q) l) l) ≤ x) → end_of at (take (cond t (suc (leading (ends_before q) l)) 0) (y ∷ l)) ≤ x
    go true e f = f (omega (arith, ltb-true y.end q e))
    go false e f = h

-- entries kept start before the cut's end
kept_starts : (q b : ℕ) (l : List Entry) (at o : ℕ) → q ≤ b → in_order_from l at o ≡ true → leading (ends_before q) l ≤ leading (starts_before b) l
unfolding leading
kept_starts q b [] at o k h = omega arith
kept_starts q b (y ∷ l) at o k h = let p = in_order_first y l at o h in go (ends_before q y) refl p.0.some (kept_starts q b l y.end o k p.1)
  where
    go : (t : Bool) → ends_before q y ≡ t → y.start < y.end → leading (ends_before q) l ≤ leading (starts_before b) l → cond t (suc (leading (ends_before q) l)) 0 ≤ cond (starts_before b y) (suc (leading (starts_before b) l)) 0
    go true e s r = rw (lt-ltb y.start b (omega (arith, ltb-true y.end q e))) (omega arith)
    go false e s r = omega arith

-- ---- entries that may be moved

-- in order, those from row i on, where that one starts at b or behind it
movable_from : (l : List Entry) (o b e i : ℕ) → in_order_from l 0 o ≡ true → o + e ≤ b + 65536 → (i < length l → b ≤ (get_or l i no_entry).start) → Movable b e (drop i l)
movable_from l o b e i h short f k lt =
    let n = length-drop i l in
    let w : i + k < length l = omega arith in
    let r = in_order_row l 0 o h (i + k) no_entry w in
    let first = f (omega arith) in
    let late : b ≤ (get_or l (i + k) no_entry).start =
    either (lt_or_le 0 k)
    (λ z. omega (arith, first, in_order_rise l 0 o h i (i + k) no_entry (omega arith) w, (in_order_row l 0 o h i no_entry (omega arith)).some))
    (λ z. let y : i ≡ i + k = omega arith in subst (λ (m : ℕ). b ≤ (get_or l m no_entry).start) y first) in
    subst (MovableRow b e) (sym (get_or-drop i l k no_entry)) (record { behind = late; some = omega (arith, r.some); inside = omega (arith, r.inside) })

-- ---- the join

-- what the search finds: no more new entries than there are, and an old entry that starts behind the cut, or none
pub record Bounds (old : List Entry) (b n m k : ℕ) : Type 0 where
  pub few : m ≤ n
  pub in_old : k ≤ length old
  pub late : k < length old → b ≤ (get_or old k no_entry).start

-- what `joins` says
pub record Joins (old : List Entry) (b e g x k : ℕ) : Type 0 where
  pub late : e ≤ x
  pub in_old : k < length old
  pub starts : (get_or old k no_entry).start + e ≡ x + b
  pub gaps : (get_or old k no_entry).gap ≡ g

pub joins_true : (old : List Entry) (b e g x k : ℕ) → joins old b e g x k ≡ true → Joins old b e g x k
unfolding joins
joins_true old b e g x k h =
    let y : Entry = get_or old k no_entry in
    let p = and_true (leb e x) (ltb k (length old) && (moved_at b e x y && eqb y.gap g)) h in
    let q = and_true (ltb k (length old)) (moved_at b e x y && eqb y.gap g) p.1 in
    let r = and_true (moved_at b e x y) (eqb y.gap g) q.1 in
    record {
      late = leb-true e x p.0;
      in_old = ltb-true k (length old) q.0;
      starts = eqb-true (y.start + e) (x + b) r.0;
      gaps = eqb-true y.gap g r.1;
    }

pub found_bounds : (old : List Entry) (b e : ℕ) (r : Reading) (n m k : ℕ) → scan_of old b e n r ≡ Ok (m, k) → Bounds old b (n + length (entries r)) m k
unfolding scan_of entries
found_bounds old b e complete n m k h =
    let w : ◌≡◌ {A = ℕ × ℕ} (n, length old) (m, k) = cc in
    let u : n ≡ m = ap (λ (p : ℕ × ℕ). p.0) w in
    let v : length old ≡ k = ap (λ (p : ℕ × ℕ). p.1) w in
    record { few = omega arith; in_old = omega arith; late = λ l. absurd (omega arith) }
found_bounds old b e (broken d) n m k h = let z : ◌≡◌ {A = ℕ} 0 1 = cc in absurd (omega arith)
found_bounds old b e (entry x r) n m k h = go (joins old b e x.gap x.start (seek_of old b e x.start)) refl h (λ p. found_bounds old b e r (n + 1) m k p)
  where
    go : (t : Bool) → joins old b e x.gap x.start (seek_of old b e x.start) ≡ t
        → ◌≡◌ {A = Told (ℕ × ℕ)} (cond t (Ok (n, seek_of old b e x.start)) (scan_of old b e (n + 1) r)) (Ok (m, k))
        → (scan_of old b e (n + 1) r ≡ Ok (m, k) → Bounds old b (n + 1 + length (entries r)) m k) → Bounds old b (n + suc (length (entries r))) m k
    go true j h f =
        let z : ◌≡◌ {A = ℕ × ℕ} (n, seek_of old b e x.start) (m, k) = cc in
        let u : n ≡ m = ap (λ (p : ℕ × ℕ). p.0) z in
        let v : seek_of old b e x.start ≡ k = ap (λ (p : ℕ × ℕ). p.1) z in
        let w = joins_true old b e x.gap x.start (seek_of old b e x.start) j in
        record { few = omega arith; in_old = omega (arith, w.in_old); late = λ l. subst (λ (i : ℕ). b ≤ (get_or old i no_entry).start) v (omega (arith, w.late, w.starts)) }
    go false j h f = let w = f h in record { few = omega (arith, w.few); in_old = w.in_old; late = w.late }

-- ---- all of it, from the checks on

module _ (t : List ℕ) (count o a b : ℕ) (text : List ℕ) (F : Fits t count o a b (length text)) where
  abbrev old : List Entry
  old = entries_of count t

  abbrev q : ℕ
  q = last_quiet quiet_byte (take a text)

  abbrev j : ℕ
  j = kept_of (entries_of count t) a text

  abbrev e : ℕ
  e = new_end o b (length text)

  pub quiet_le : last_quiet quiet_byte (take a text) ≤ a
  quiet_le = omega (arith, last_le quiet_byte (take a text), length-take a text)

  pub cut_inside : a ≤ length text
  cut_inside = omega (arith, F.cuts.cut, F.cuts.in_old, F.cuts.lengths)

  pub kept_le : kept_of (entries_of count t) a text ≤ count
  kept_le = omega (arith, lead_le (ends_before q) old, length_entries count t)

  pub resume_inside : resume_at (entries_of count t) (kept_of (entries_of count t) a text) ≤ length text
  resume_inside = omega (arith, cut_inside, resume_le q a old 0 (omega arith) quiet_le)

  -- the search for the join may begin behind the entries kept
  pub kept_early : (j' : ℕ) → j' ≡ kept_of (entries_of count t) a text → j' ≤ leading (starts_before b) (entries_of count t)
  unfolding in_order
  kept_early j' h = omega (arith, kept_starts q b old 0 o (omega (arith, quiet_le, F.cuts.cut)) F.sorted)

  module _ (m i : ℕ) (found : found_of (entries_of count t) (kept_of (entries_of count t) a text) b (new_end o b (length text)) text ≡ Ok (m, i)) where
    bounds : Bounds old b (0 + length (entries (read_from ron_token text (resume_at old j)))) m i
    bounds = found_bounds old b e (read_from ron_token text (resume_at old j)) 0 m i found

    pub new_few : m ≤ length (entries (read_from ron_token text (resume_at (entries_of count t) (kept_of (entries_of count t) a text))))
    new_few = omega (arith, bounds.few)

    pub join_le : i ≤ count
    join_le = omega (arith, bounds.in_old, length_entries count t)

    clash : i < j → ⊥
    unfolding in_order
    clash h =
        let lt : i < length old = omega (arith, lead_le (ends_before q) old) in
        let early = ltb-true (get_or old i no_entry).end q (lead_at (ends_before q) old i h) in
        let row = in_order_row old 0 o F.sorted i no_entry lt in
        omega (arith, early, quiet_le, F.cuts.cut, bounds.late lt, row.some)

    pub join_behind : kept_of (entries_of count t) a text ≤ i
    join_behind = either (lt_or_le i j) (λ h. absurd (clash h)) (λ h. h)

    -- the entries behind the join may be moved
    pub behind_movable : length text ≤ 65536 → (j' : ℕ) → j' ≡ kept_of (entries_of count t) a text → Movable b (new_end o b (length text)) (entries_of (count - i) (drop (width * (j' + (i - j'))) t))
    unfolding in_order
    behind_movable short j' h =
        let z : j' + (i - j') ≡ i = omega (arith, join_behind) in
        let rows : entries_of (count - i) (drop (width * (j' + (i - j'))) t) ≡ drop i old = ap (λ (k : ℕ). entries_of (count - i) (drop (width * k) t)) z ∙ sym (entries_drop count i t join_le) in
        subst (Movable b e) (sym rows) (movable_from old o b e i F.sorted (omega (arith, F.cuts.in_old, F.cuts.lengths)) bounds.late)

    pub few_new : (p : ℕ) → p ≡ resume_at (entries_of count t) (kept_of (entries_of count t) a text) → m ≤ length (entries (read_from ron_token text p))
    few_new p h = subst (λ (x : ℕ). m ≤ length (entries (read_from ron_token text x))) (sym h) new_few

  -- ---- the same in the values that the code has
  pub kept_is : (q' j' : ℕ) → q' ≡ last_quiet quiet_byte (take (a - 0) (drop 0 text)) → j' ≡ leading (ends_before q') (entries_of count t) → j' ≡ kept_of (entries_of count t) a text
  kept_is q' j' eq ej = let z : a - 0 ≡ a = omega arith in ej ∙ ap (λ (x : ℕ). leading (ends_before x) old) (eq ∙ ap (λ (n : ℕ). last_quiet quiet_byte (take n text)) z)

  pub from_is : (j' p : ℕ) → j' ≡ kept_of (entries_of count t) a text → p ≡ end_of 0 (entries_of j' t) → p ≡ resume_at (entries_of count t) (kept_of (entries_of count t) a text)
  from_is j' p ej ep = ep ∙ ap (λ (x : ℕ). end_of 0 (entries_of x t)) ej ∙ ap (end_of 0) (sym (entries_take count j t kept_le))

  pub found_is : (p : ℕ) (s : Told (ℕ × ℕ)) → p ≡ resume_at (entries_of count t) (kept_of (entries_of count t) a text) → s ≡ scan_of (entries_of count t) b (new_end o b (length text)) 0 (read_from ron_token text p)
      → s ≡ found_of (entries_of count t) (kept_of (entries_of count t) a text) b (new_end o b (length text)) text
  found_is p s ep es = es ∙ ap (λ (x : ℕ). scan_of old b e 0 (read_from ron_token text x)) ep

-- The numbers of read and repair are low: a reading has no more entries than the text has bytes, and stops within it; a repair keeps no more of the old
-- ones before and behind the cut. Assumes nothing.
use Rattle.std.proofs.Common.{Ok, Err}
use Prim.Native.Nat.{ℕ, zero, suc, ◌+◌, ◌-◌, ◌<◌, ◌≤◌}
use native.Mathlib.Omega.{arith}
use mathlib.Core.Bool.{Bool, true, false, cond}
use mathlib.Core.List.{List, [], ◌∷◌}
use mathlib.Core.Path.{◌≡◌, ◌∙◌, ap, refl, sym}
use lib.Dec.{ltb}
use lib.ListN.{drop, get_or, length, length-drop, take}
use borrow.Author.Tests.{ltb-true}
use Rattle.text.proofs.Choices.{cond_cases, either, lt_or_le}
use Rattle.text.specs.Refusals.{Told, placed_behind}
use Rattle.text.specs.declared.refusal.Refusal.{Refusal}
use Rattle.rows.proofs.OrderLaws.{in_order_first, in_order_short}
use Rattle.rows.proofs.RowLaws.{length_entries}
use Rattle.rows.specs.Order.{in_order, in_order_from}
use Rattle.rows.specs.Rows.{entries_of, room_of}
use Rattle.rows.specs.declared.Entry.{Entry}
use Rattle.reading.proofs.Entries.{counted_accepted}
use Rattle.reading.proofs.Steps.{first, read_refuse, read_stop, read_token}
use Rattle.reading.specs.Kept.{last_quiet}
use Rattle.reading.specs.Owed.{quiet_byte}
use Rattle.reading.specs.Readings.{Reading, broken, complete, counted, entry, read_from, read_part}
use Rattle.reading.specs.Tokens.{Answer, refuse, stop, token, reach}
use Rattle.tokens.proofs.RonLaws.{laws, refused_within}
use Rattle.tokens.specs.Ron.{ron_token}
use Rattle.read.proofs.PassLaws.{few_entries}
use Rattle.read.specs.Read.{read_answer, reading_of, room_for}
use Rattle.repair.proofs.Checks.{Fits, fits_true}
use Rattle.repair.proofs.Finding.{cut_inside, found_bounds, quiet_le, resume_inside}
use Rattle.repair.specs.Repair.{answer_by, ends_before, found_of, joins, kept_of, leading, new_end, no_entry, repair_answer_of, repair_fits, repair_of, resume_at, scan_of, seek_of}
use Rattle.sarridok_c.specs.Whole.{count_parts, repaired_parts}
use Rattle.sarridok_c.proofs.Unpacking.{Low, behind-judged}

-- ---- a reading stops within its text

-- a reading that breaks off does so at m or before it
abbrev pub Stops : ℕ → Reading → Type 0
Stops m complete = Unit {0}
Stops m (broken r) = r.place ≤ m
Stops m (entry e r) = Stops m r

-- token by token
stops_part : (r : Reading) (at : ℕ) (s : List ℕ) (m : ℕ) → at + length s ≤ m → read_part ron_token at s ≡ r → Stops m r
stops_part complete at s m h e = tt
stops_part (broken d) at s m h e = go (ron_token s) refl
  where
    go : (a : Answer) → ron_token s ≡ a → d.place ≤ m
    go (token t) q = let z = sym (read_token ron_token quiet_byte laws at s t q) ∙ e in let y : ◌≡◌ {A = ℕ} 0 1 = cc in absurd (omega arith)
    go stop q = let z = sym (read_stop ron_token quiet_byte laws at s q) ∙ e in let y : ◌≡◌ {A = ℕ} 0 1 = cc in absurd (omega arith)
    go (refuse x) q =
        let z : broken (placed_behind at x) ≡ broken d = sym (read_refuse ron_token quiet_byte laws at s x q) ∙ e in
        let y : placed_behind at x ≡ d = cc in
        omega (arith, ap (λ (r : Refusal). r.place) y, refused_within s x q)
stops_part (entry x r) at s m h e =
    let f = first ron_token quiet_byte laws at s x r e in
    let i = laws.inside s f.this f.answer in
    stops_part r (at + reach f.this) (drop (reach f.this) s) m (omega (arith, length-drop (reach f.this) s)) (sym f.rest_is)

pub stops : (text : List ℕ) (at : ℕ) → at ≤ length text → Stops (length text) (read_from ron_token text at)
stops text at h = stops_part (read_from ron_token text at) at (drop at text) (length text) (omega (arith, length-drop at text)) refl

-- ---- read

counted_stops : (n m : ℕ) (r : Reading) (d : Refusal) → Stops m r → counted n r ≡ Err d → d.place ≤ m
unfolding counted
counted_stops n m complete d h e = let y : ◌≡◌ {A = ℕ} 0 1 = cc in absurd (omega arith)
counted_stops n m (broken x) d h e = let y : x ≡ d = cc in omega (arith, ap (λ (r : Refusal). r.place) y)
counted_stops n m (entry x r) d h e = counted_stops (n + 1) m r d h e

-- what is counted, or refused
counted_low : (text : List ℕ) (room : ℕ) (t : Told ℕ) → length text ≤ 65536 → counted 0 (reading_of text) ≡ t → Low count_parts (room_for room t)
counted_low text room (Ok n) h e =
    let c = counted_accepted (reading_of text) 0 n e in
    cond_cases (Low count_parts) (ltb room n) _ _ (λ p. omega arith) (λ p. (omega arith, omega (arith, c.count_is, few_entries text 0)))
counted_low text room (Err r) h e = omega (arith, counted_stops 0 (length text) (reading_of text) r (stops text 0 (omega arith)) e)

pub read_low : (text : List ℕ) (numbers : ℕ) → Low count_parts (read_answer text numbers)
unfolding read_answer
read_low text numbers = behind-judged count_parts text _ (λ l. counted_low text (room_of numbers) (counted 0 (reading_of text)) l refl)

-- ---- repair

-- no more entries end before a place than it has bytes before it
lead_few : (q : ℕ) (es : List Entry) (at limit : ℕ) → at ≤ q → in_order_from es at limit ≡ true → at + leading (ends_before q) es ≤ q
unfolding leading
lead_few q [] at limit h o = omega arith
lead_few q (x ∷ es) at limit h o =
    let p = in_order_first x es at limit o in
    cond_cases (λ (n : ℕ). at + n ≤ q) (ends_before q x) (suc (leading (ends_before q) es)) 0
    (λ e. omega (arith, p.0.behind, p.0.some, lead_few q es x.end limit (omega (arith, ltb-true x.end q e)) p.1)) (λ e. omega arith)

-- nor are those from one on that starts at b or behind it more than the bytes behind b
tail_few : (es : List Entry) (at limit b k : ℕ) → in_order_from es at limit ≡ true → k < length es → b ≤ (get_or es k no_entry).start → b + (length es - k) ≤ limit
tail_few [] at limit b k o h l = absurd (omega arith)
tail_few (x ∷ es) at limit b zero o h l =
    let p = in_order_first x es at limit o in
    omega (arith, p.0.some, in_order_short es x.end limit p.1)
tail_few (x ∷ es) at limit b (suc k) o h l = let r = tail_few es x.end limit b k (in_order_first x es at limit o).1 (omega arith) l in omega arith

-- a search that breaks off does so where the reading does
scan_stops : (old : List Entry) (b e n m : ℕ) (r : Reading) (d : Refusal) → Stops m r → scan_of old b e n r ≡ Err d → d.place ≤ m
unfolding scan_of
scan_stops old b e n m complete d h q = let y : ◌≡◌ {A = ℕ} 0 1 = cc in absurd (omega arith)
scan_stops old b e n m (broken x) d h q = let y : x ≡ d = cc in omega (arith, ap (λ (r : Refusal). r.place) y)
scan_stops old b e n m (entry x r) d h q = go (joins old b e x.gap x.start (seek_of old b e x.start)) q (scan_stops old b e (n + 1) m r d h)
  where
    go : (t : Bool) → ◌≡◌ {A = Told (ℕ × ℕ)} (cond t (Ok (n, seek_of old b e x.start)) (scan_of old b e (n + 1) r)) (Err d) → (scan_of old b e (n + 1) r ≡ Err d → d.place ≤ m) → d.place ≤ m
    go true q f = let y : ◌≡◌ {A = ℕ} 0 1 = cc in absurd (omega arith)
    go false q f = f q

module _ (tape : List ℕ) (count o a b : ℕ) (text : List ℕ) (h : length text ≤ 65536) (F : Fits tape count o a b (length text)) where
  abbrev old : List Entry
  old = entries_of count tape

  abbrev j : ℕ
  j = kept_of (entries_of count tape) a text

  abbrev e : ℕ
  e = new_end o b (length text)

  -- entries kept before the cut
  kept_few : j ≤ 65536
  unfolding in_order
  kept_few =
      omega (arith, lead_few (last_quiet quiet_byte (take a text)) old 0 o (omega arith) F.sorted, quiet_le tape count o a b text F, cut_inside tape count o a b text F)

  -- and behind it
  behind_few : (i : ℕ) → (i < length old → b ≤ (get_or old i no_entry).start) → count - i ≤ 65536
  unfolding in_order
  behind_few i late =
      let n = length_entries count tape in
      either (lt_or_le i count)
      (λ l. omega (arith, tail_few old 0 o b i F.sorted (omega arith) (late (omega arith)), F.cuts.cut, F.cuts.lengths))
      (λ l. omega arith)

  -- those, and the new ones between them
  answer_low : (s : Told (ℕ × ℕ)) → found_of old j b e text ≡ s → Low repaired_parts (answer_by (room_of (length tape)) count j s)
  answer_low (Err r) q =
      omega (arith, scan_stops old b e 0 (length text) (read_from ron_token text (resume_at old j)) r (stops text (resume_at old j) (resume_inside tape count o a b text F)) q)
  answer_low (Ok (m, i)) q =
      let w = found_bounds old b e (read_from ron_token text (resume_at old j)) 0 m i q in
      let k = kept_few in
      let l = behind_few i w.late in
      cond_cases (Low repaired_parts) (ltb (room_of (length tape)) (j + m + (count - i))) _ _ (λ p. omega arith)
      (λ p. (omega arith, omega (arith, w.few, few_entries text (resume_at old j))))

-- over any tape, in order or not
pub repair_low : (tape : List ℕ) (count o a b : ℕ) (text : List ℕ) → Low repaired_parts (repair_of tape count o a b text)
unfolding repair_of repair_answer_of
repair_low tape count o a b text =
    behind-judged repaired_parts text _
    (λ l. cond_cases (Low repaired_parts) (repair_fits tape count o a b (length text)) _ _
    (λ f. answer_low tape count o a b text l (fits_true tape count o a b (length text) f) _ refl) (λ f. omega arith))

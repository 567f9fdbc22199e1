-- The search over the old entries, and the new reading up to the join. Assumes nothing.
use Rattle.std.proofs.Common.{Ok, Err}
use Prim.Native.Nat.{◌+◌, ◌-◌, ◌<◌, ◌≤◌, ℕ}
use native.Mathlib.Omega.{arith}
use mathlib.Core.Bool.{Bool, cond, false, true}
use mathlib.Core.List.{List}
use mathlib.Core.Path.{◌∙◌, ◌≡◌, ap, refl, sym}
use lib.Dec.{ltb}
use lib.ListN.{drop, get_or, length}
use borrow.Author.Tests.{eq-eqb, le-leb, le-ltb, lt-leb, lt-ltb, ltb-true, ne_eqb}
use Rattle.reading.specs.Readings.{Reading}
use Rattle.reading.specs.Readings.Reading.{broken, complete, entry}
use Rattle.repair.proofs.Leading.{lead_le, lead_more, lead_same, lead_skip}
use Rattle.repair.specs.Repair.{joins, leading, moved_before, no_entry, scan_of, seek_of}
use Rattle.repair.specs.inner.Steps.{met_of, seek_from, starts_before}
use Rattle.repair.specs.declared.seeking.Met.TheVariants.{At, Next}
use Rattle.rows.specs.declared.Entry.{Entry}
use Rattle.text.proofs.Choices.{either, lt_or_le}
use Rattle.text.specs.declared.refusal.Refusal.{Refusal}

test_same : (a b c d : ℕ) → (a < b → c < d) → (c < d → a < b) → ltb a b ≡ ltb c d
test_same a b c d f g =
    either (lt_or_le a b)
    (λ h. lt-ltb a b h ∙ sym (lt-ltb c d (f h)))
    (λ h. either (lt_or_le c d) (λ k. let w = g k in absurd (omega arith)) (λ k. le-ltb a b h ∙ sym (le-ltb c d k)))

module _ (old : List Entry) (b e : ℕ) where
  -- where the search stands does not go back
  pub seek_grows : (x y : ℕ) → x ≤ y → seek_of old b e x ≤ seek_of old b e y
  seek_grows x y h = lead_more (moved_before b e x) (moved_before b e y) old (λ z w. let l = ltb-true (z.start + e) (x + b) w in lt-ltb (z.start + e) (y + b) (omega arith))

  pub seek_le : (x : ℕ) → seek_of old b e x ≤ length old
  seek_le x = lead_le (moved_before b e x) old

  -- where the search may stand while the new reading is at a place
  abbrev pub Standing : ℕ → ℕ → Type 0
  Standing at i = (x : ℕ) → e ≤ x → at ≤ x → i ≤ seek_of old b e x

  -- behind entries that start before b
  pub stands : (at j : ℕ) → j ≤ leading (starts_before b) old → Standing at j
  stands at j h x l m =
      let w = lead_more (starts_before b) (moved_before b e x) old (λ z y. let s = ltb-true z.start b y in lt-ltb (z.start + e) (x + b) (omega arith)) in
      omega arith

  -- and it may go on from where it stood
  pub seek_is : (i x : ℕ) → e ≤ x → i ≤ seek_of old b e x → seek_from old i (x - e + b) ≡ seek_of old b e x
  seek_is i x h l =
      ap (λ (n : ℕ). i + n) (lead_same (starts_before (x - e + b)) (moved_before b e x) (drop i old) (λ y. test_same y.start (x - e + b) (y.start + e) (x + b) (λ w. omega arith) (λ w. omega arith)))
      ∙ lead_skip (moved_before b e x) old i l

  -- ---- the ways out of a meeting

  pub meet_early : (i g x : ℕ) → x < e → Next i ≡ met_of old b e i g x
  meet_early i g x h = rw (lt-leb e x h)

  module _ (i g x k : ℕ) (late : e ≤ x) (is : k ≡ seek_of old b e x) where
    by_join : (t : Bool) → joins old b e g x k ≡ t → cond t (At k) (Next k) ≡ met_of old b e i g x
    by_join t h =
        sym (ap (λ (c : Bool). cond c (cond (joins old b e g x (seek_of old b e x)) (At (seek_of old b e x)) (Next (seek_of old b e x))) (Next i)) (le-leb e x late)
        ∙ ap (λ (n : ℕ). cond (joins old b e g x n) (At n) (Next n)) (sym is)
        ∙ ap (λ (c : Bool). cond c (At k) (Next k)) h)

    pub meet_none : length old ≤ k → Next k ≡ met_of old b e i g x
    unfolding joins
    meet_none h = by_join false (simp (le-leb e x late, le-ltb k (length old) h))

    pub meet_at : k < length old → (get_or old k no_entry).start ≡ x - e + b → (get_or old k no_entry).gap ≡ g → At k ≡ met_of old b e i g x
    unfolding joins
    meet_at h at gaps =
        by_join true
        (simp (le-leb e x late, lt-ltb k (length old) h, eq-eqb ((get_or old k no_entry).start + e) (x + b) (omega arith), eq-eqb (get_or old k no_entry).gap g gaps))

    pub meet_past : k < length old → ((get_or old k no_entry).start ≡ x - e + b → ⊥) → Next k ≡ met_of old b e i g x
    unfolding joins
    meet_past h off = by_join false (simp (le-leb e x late, lt-ltb k (length old) h, ne_eqb ((get_or old k no_entry).start + e) (x + b) (λ w. off (omega arith))))

    -- where the starts meet and the gaps differ
    pub meet_gapped : k < length old → (get_or old k no_entry).start ≡ x - e + b → ((get_or old k no_entry).gap ≡ g → ⊥) → Next k ≡ met_of old b e i g x
    unfolding joins
    meet_gapped h at off =
        by_join false
        (simp (le-leb e x late, lt-ltb k (length old) h, eq-eqb ((get_or old k no_entry).start + e) (x + b) (omega arith), ne_eqb (get_or old k no_entry).gap g off))

  -- ---- what a meeting says

  pub met_next : (i g x k : ℕ) → met_of old b e i g x ≡ Next k → (joins old b e g x (seek_of old b e x) ≡ false) × ((y : ℕ) → x ≤ y → i ≤ seek_of old b e y → k ≤ seek_of old b e y)
  unfolding joins
  met_next i g x k m =
      either (lt_or_le x e)
      (λ l. let z : i ≡ k = (let w : Next i ≡ Next k = meet_early i g x l ∙ m in cc) in (rw (lt-leb e x l), λ y h f. omega arith))
      (λ l. go l (joins old b e g x (seek_of old b e x)) refl)
    where
      go : e ≤ x → (t : Bool) → joins old b e g x (seek_of old b e x) ≡ t → (joins old b e g x (seek_of old b e x) ≡ false) × ((y : ℕ) → x ≤ y → i ≤ seek_of old b e y → k ≤ seek_of old b e y)
      go l false j = let z : seek_of old b e x ≡ k = (let w : Next (seek_of old b e x) ≡ Next k = by_join i g x (seek_of old b e x) l refl false j ∙ m in cc) in (j, λ y h f. omega (arith, seek_grows x y h))
      go l true j = let w : At (seek_of old b e x) ≡ Next k = by_join i g x (seek_of old b e x) l refl true j ∙ m in let y : ◌≡◌ {A = ℕ} 0 1 = cc in absurd (omega arith)

  pub met_at : (i g x k : ℕ) → met_of old b e i g x ≡ At k → (joins old b e g x (seek_of old b e x) ≡ true) × (seek_of old b e x ≡ k)
  met_at i g x k m =
      either (lt_or_le x e)
      (λ l. let w : Next i ≡ At k = meet_early i g x l ∙ m in let y : ◌≡◌ {A = ℕ} 0 1 = cc in absurd (omega arith))
      (λ l. go l (joins old b e g x (seek_of old b e x)) refl)
    where
      go : e ≤ x → (t : Bool) → joins old b e g x (seek_of old b e x) ≡ t → (joins old b e g x (seek_of old b e x) ≡ true) × (seek_of old b e x ≡ k)
      go l true j = let z : seek_of old b e x ≡ k = (let w : At (seek_of old b e x) ≡ At k = by_join i g x (seek_of old b e x) l refl true j ∙ m in cc) in (j, z)
      go l false j = let w : Next (seek_of old b e x) ≡ At k = by_join i g x (seek_of old b e x) l refl false j ∙ m in let y : ◌≡◌ {A = ℕ} 0 1 = cc in absurd (omega arith)

  -- ---- one entry of the new reading

  pub scan_on : (n i k : ℕ) (x : Entry) (r : Reading) → met_of old b e i x.gap x.start ≡ Next k → scan_of old b e n (entry x r) ≡ scan_of old b e (n + 1) r
  unfolding scan_of
  scan_on n i k x r m = ap (λ (c : Bool). cond c (Ok (n, seek_of old b e x.start)) (scan_of old b e (n + 1) r)) (met_next i x.gap x.start k m).0

  pub scan_at : (n i k : ℕ) (x : Entry) (r : Reading) → met_of old b e i x.gap x.start ≡ At k → scan_of old b e n (entry x r) ≡ Ok (n, k)
  unfolding scan_of
  scan_at n i k x r m =
      let j = met_at i x.gap x.start k m in
      ap (λ (c : Bool). cond c (Ok (n, seek_of old b e x.start)) (scan_of old b e (n + 1) r)) j.0 ∙ ap (λ (y : ℕ). Ok (n, y)) j.1

  pub scan_end : (n : ℕ) → scan_of old b e n complete ≡ Ok (n, length old)
  unfolding scan_of
  scan_end n = refl

  pub scan_broken : (n : ℕ) (d : Refusal) → scan_of old b e n (broken d) ≡ Err d
  unfolding scan_of
  scan_broken n d = refl

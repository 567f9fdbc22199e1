-- What the search for the join finds, where the old entries are in order. Assumes nothing.
use Rattle.std.proofs.Common.{Ok, Err}
use Rattle.text.specs.Refusals.{Told}
use Prim.Native.Nat.{◌+◌, ◌<◌, ◌≤◌, suc, zero, ℕ}
use native.Mathlib.Nat.{le_of_suc-le-suc, not-suc-le-zero}
use native.Mathlib.Omega.{arith}
use mathlib.Core.Bool.{Bool, true, false, ◌&&◌, ◌||◌, cond}
use mathlib.Core.List.{List, [], ◌++◌, ◌∷◌}
use mathlib.Core.Path.{◌∙◌, ◌≡◌, ap, refl, subst, sym}
use lib.Dec.{eqb}
use lib.ListN.{get_or, length}
use borrow.Author.Tests.{eq-eqb, eqb-true, le-leb, lt-leb, lt-ltb, ltb-false, ltb-true, ne_eqb}
use Rattle.mending.specs.Fresh.{apart, starts_moved}
use Rattle.reading.proofs.KeptLaws.{All, Apart, all_of}
use Rattle.reading.specs.Readings.{Reading, ◌▸◌}
use Rattle.reading.specs.Readings.Reading.{broken, complete, entry}
use Rattle.repair.proofs.Finding.{joins_true}
use Rattle.repair.proofs.Leading.{lead_at, lead_not}
use Rattle.repair.specs.Repair.{joins, leading, moved_before, no_entry, scan_of, seek_of}
use Rattle.rows.proofs.OrderLaws.{in_order_rise, in_order_row}
use Rattle.rows.specs.Order.{in_order_from}
use Rattle.rows.specs.declared.Entry.{Entry}
use Rattle.text.proofs.Choices.{either, lt_or_le, or_true}
use Rattle.text.specs.declared.refusal.Refusal.{Refusal}

-- ---- the test of document 01's sentence

-- two numbers of each: one pair of them differs
two_differ : (a b c d : ℕ) → (a ≡ b → c ≡ d → ⊥) → eqb a b && eqb c d ≡ false
two_differ a b c d off = go (eqb a b) refl
  where
    go : (t : Bool) → eqb a b ≡ t → t && eqb c d ≡ false
    go true e = ne_eqb c d (off (eqb-true a b e))
    go false e = refl

apart_none : (o n : ℕ) (old : List Entry) (x : Entry) → All (λ y. x.start + o ≡ y.start + n → x.gap ≡ y.gap → ⊥) old → starts_moved o n old x ≡ false
unfolding starts_moved
apart_none o n [] x a = refl
apart_none o n (y ∷ old) x a = rw (two_differ (x.start + o) (y.start + n) x.gap y.gap a.0) (apart_none o n old x a.1)

pub apart_true : (o n e : ℕ) (old : List Entry) (x : Entry) → Apart o n e old x → apart o n e old x ≡ true
apart_true o n e old x a =
    either (lt_or_le x.start e)
    (λ h. rw (lt-leb e x.start h))
    (λ h. rw (le-leb e x.start h, apart_none o n old x (a h)))

some_starts : (o n : ℕ) (old : List Entry) (x : Entry) (k : ℕ) → k < length old → x.start + o ≡ (get_or old k no_entry).start + n → x.gap ≡ (get_or old k no_entry).gap
    → starts_moved o n old x ≡ true
unfolding starts_moved
some_starts o n [] x k l h g = absurd (not-suc-le-zero l)
some_starts o n (y ∷ old) x zero l h g = rw (eq-eqb (x.start + o) (y.start + n) h, eq-eqb x.gap y.gap g)
some_starts o n (y ∷ old) x (suc k) l h g =
    let here : Bool = eqb (x.start + o) (y.start + n) && eqb x.gap y.gap in
    ap (λ (t : Bool). here || t) (some_starts o n old x k (le_of_suc-le-suc l) h g) ∙ or_true here

pub apart_false : (o n e : ℕ) (old : List Entry) (x : Entry) (k : ℕ) → e ≤ x.start → k < length old → x.start + o ≡ (get_or old k no_entry).start + n
    → x.gap ≡ (get_or old k no_entry).gap → apart o n e old x ≡ false
apart_false o n e old x k late l h g = rw (le-leb e x.start late, some_starts o n old x k l h g)

-- counted up to the first that joins
pub lead_front : (p : Entry → Bool) (xs : List Entry) (ys : List Entry) → All (λ x. p x ≡ true) xs → leading p ys ≡ 0 → leading p (xs ++ ys) ≡ length xs
unfolding leading
lead_front p [] ys a h = h
lead_front p (x ∷ xs) ys a h = rw a.0 (ap suc (lead_front p xs ys a.1 h))

-- ---- the search

-- o and n are the lengths of the texts, b and e the ends of the cut and of the new bytes
module _ (old : List Entry) (o n b e : ℕ) (sorted : in_order_from old 0 o ≡ true) (same : e + o ≡ b + n) where
  -- an entry that does not join starts where no moved old entry starts behind the same gap
  none_there : (x : Entry) → joins old b e x.gap x.start (seek_of old b e x.start) ≡ false → Apart o n e old x
  unfolding joins
  none_there x off late = all_of (λ y. x.start + o ≡ y.start + n → x.gap ≡ y.gap → ⊥) old (λ i l h g. go i l (omega arith) (sym g))
    where
      k : ℕ
      k = seek_of old b e x.start

      here : k < length old → (get_or old k no_entry).start + e ≡ x.start + b → (get_or old k no_entry).gap ≡ x.gap → ⊥
      here l h g =
          let z : ◌≡◌ {A = Bool} true false =
          sym (simp (le-leb e x.start late, lt-ltb k (length old) l, eq-eqb ((get_or old k no_entry).start + e) (x.start + b) h, eq-eqb (get_or old k no_entry).gap x.gap g)) ∙ off in
          let y : ◌≡◌ {A = ℕ} 0 1 = cc in
          absurd (omega arith)

      go : (i : ℕ) → i < length old → (get_or old i no_entry).start + e ≡ x.start + b → (get_or old i no_entry).gap ≡ x.gap → ⊥
      go i l h g =
          either (lt_or_le i k)
          (λ s. let w = ltb-true ((get_or old i no_entry).start + e) (x.start + b) (lead_at (moved_before b e x.start) old i s) in omega arith)
          (λ s. either (lt_or_le k i)
          (λ u.
          let kl : k < length old = omega arith in
          let v = ltb-false ((get_or old k no_entry).start + e) (x.start + b) (lead_not (moved_before b e x.start) old kl) in
          let r = in_order_rise old 0 o sorted k i no_entry u l in
          let t = (in_order_row old 0 o sorted k no_entry kl).some in
          omega arith)
          (λ u.
          let z : i ≡ k = omega arith in
          here (subst (λ (m : ℕ). m < length old) z l)
          (subst (λ (m : ℕ). (get_or old m no_entry).start + e ≡ x.start + b) z h)
          (subst (λ (m : ℕ). (get_or old m no_entry).gap ≡ x.gap) z g)))

  -- the search ends with the reading, or at the first entry that joins
  pub data Joined (r : Reading) (c m k : ℕ) : Type 0 where
    ends : (ns : List Entry) → r ≡ ns ▸ complete → m ≡ c + length ns → k ≡ length old → All (Apart o n e old) ns → Joined r c m k
    meets : (ns : List Entry) (x : Entry) (r' : Reading) → r ≡ ns ▸ entry x r' → m ≡ c + length ns → All (Apart o n e old) ns
        → e ≤ x.start → k < length old → (get_or old k no_entry).start + e ≡ x.start + b → (get_or old k no_entry).gap ≡ x.gap → Joined r c m k

  one_more : (r : Reading) (c m k : ℕ) (x : Entry) → Apart o n e old x → Joined r (c + 1) m k → Joined (entry x r) c m k
  one_more r c m k x a (ends ns er em ek al) = ends (x ∷ ns) (ap (entry x) er) (omega arith) ek (a, al)
  one_more r c m k x a (meets ns y r' er em al late lt eq g) = meets (x ∷ ns) y r' (ap (entry x) er) (omega arith) (a, al) late lt eq g

  pub scan_found : (r : Reading) (c m k : ℕ) → scan_of old b e c r ≡ Ok (m, k) → Joined r c m k
  unfolding scan_of
  scan_found complete c m k f =
      let w : ◌≡◌ {A = ℕ × ℕ} (c, length old) (m, k) = cc in
      let u : c ≡ m = ap (λ (p : ℕ × ℕ). p.0) w in
      let v : length old ≡ k = ap (λ (p : ℕ × ℕ). p.1) w in
      ends [] refl (omega arith) (sym v) tt
  scan_found (broken d) c m k f = let z : ◌≡◌ {A = ℕ} 0 1 = cc in absurd (omega arith)
  scan_found (entry x r) c m k f = go (joins old b e x.gap x.start (seek_of old b e x.start)) refl f (λ h. scan_found r (c + 1) m k h)
    where
      go : (t : Bool) → joins old b e x.gap x.start (seek_of old b e x.start) ≡ t
          → ◌≡◌ {A = Told (ℕ × ℕ)} (cond t (Ok (c, seek_of old b e x.start)) (scan_of old b e (c + 1) r)) (Ok (m, k))
          → (scan_of old b e (c + 1) r ≡ Ok (m, k) → Joined r (c + 1) m k) → Joined (entry x r) c m k
      go true j h rec =
          let z : ◌≡◌ {A = ℕ × ℕ} (c, seek_of old b e x.start) (m, k) = cc in
          let u : c ≡ m = ap (λ (p : ℕ × ℕ). p.0) z in
          let v : seek_of old b e x.start ≡ k = ap (λ (p : ℕ × ℕ). p.1) z in
          let w = joins_true old b e x.gap x.start (seek_of old b e x.start) j in
          meets [] x r refl (omega arith) tt w.late
          (subst (λ (i : ℕ). i < length old) v w.in_old)
          (subst (λ (i : ℕ). (get_or old i no_entry).start + e ≡ x.start + b) v w.starts)
          (subst (λ (i : ℕ). (get_or old i no_entry).gap ≡ x.gap) v w.gaps)
      go false j h rec = one_more r c m k x (none_there x j) (rec h)

-- and a refusal that it meets is the reading's
pub scan_refused : (old : List Entry) (b e : ℕ) (r : Reading) (c : ℕ) (d : Refusal) → scan_of old b e c r ≡ Err d → (ns : List Entry) × (r ≡ ns ▸ broken d)
unfolding scan_of
scan_refused old b e complete c d f = let z : ◌≡◌ {A = ℕ} 0 1 = cc in absurd (omega arith)
scan_refused old b e (broken q) c d f = let u : q ≡ d = cc in ([], ap broken u)
scan_refused old b e (entry x r) c d f = go (joins old b e x.gap x.start (seek_of old b e x.start)) f (λ h. scan_refused old b e r (c + 1) d h)
  where
    go : (t : Bool) → ◌≡◌ {A = Told (ℕ × ℕ)} (cond t (Ok (c, seek_of old b e x.start)) (scan_of old b e (c + 1) r)) (Err d)
        → (scan_of old b e (c + 1) r ≡ Err d → (ns : List Entry) × (r ≡ ns ▸ broken d)) → (ns : List Entry) × (entry x r ≡ ns ▸ broken d)
    go true h rec = let z : ◌≡◌ {A = ℕ} 0 1 = cc in absurd (omega arith)
    go false h rec = let w = rec h in (x ∷ w.0, ap (entry x) w.1)

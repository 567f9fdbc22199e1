-- The gap lowers the count behind by one at most (document 02, CR 6): behind the first entry, gaps are distances between entries that moved alike. Assumes nothing.
use Prim.Native.Nat.{◌+◌, ◌-◌, ◌≤◌, suc, zero, ℕ}
use native.Mathlib.Omega.{arith}
use mathlib.Core.Bool.{true}
use mathlib.Core.List.{List, [], ◌∷◌}
use mathlib.Core.Path.{◌∙◌, ◌≡◌, ap, refl, subst, sym}
use lib.Dec.{leb}
use lib.ListN.{drop, get_or, length}
use lib.Seq.{drop-cons}
use Rattle.reading.proofs.Joins.{moved_test, test_moved}
use Rattle.reading.proofs.KeptLaws.{kept_behind_holds, kept_behind_most, no_entry}
use Rattle.reading.specs.Kept.{AllThere, KeptThere, all_behind, are_moved, is_moved, kept_behind, last_of}
use Rattle.reading.specs.Kept.AllThere.{none, more}
use Rattle.rows.proofs.OrderLaws.{in_order_drop, in_order_first}
use Rattle.rows.specs.Order.{in_order_from}
use Rattle.rows.specs.declared.Entry.{Entry}
use Rattle.text.proofs.Choices.{and_true}

-- entries in order behind places that moved alike have the same gaps, if they moved alike
there_moved : {o n : ℕ} {ys xs : List Entry} → AllThere o n ys xs → (ey ex ly lx : ℕ) → ex + o ≡ ey + n
    → in_order_from ys ey ly ≡ true → in_order_from xs ex lx ≡ true → are_moved ys xs o n ≡ true
unfolding are_moved
there_moved none ey ex ly lx h p q = refl
there_moved {o} {n} (more {y} {x} {ys} {xs} m ms) ey ex ly lx h p q =
    let a = in_order_first y ys ey ly p in
    let b = in_order_first x xs ex lx q in
    let gaps : x.gap ≡ y.gap = omega (arith, m.start, a.0.distance, b.0.distance) in
    rw (moved_test o n y x (record { kind_same = m.kind; start_moved = m.start; end_moved = m.end; detail_same = m.detail; gap_same = gaps }))
    (there_moved ms y.end x.end ly lx m.end a.1 b.1)

-- the first of such lists aside
tails_moved : {o n : ℕ} (ys xs : List Entry) (y x : Entry) → AllThere o n (y ∷ ys) (x ∷ xs) → (ey ex ly lx : ℕ)
    → in_order_from (y ∷ ys) ey ly ≡ true → in_order_from (x ∷ xs) ex lx ≡ true → are_moved ys xs o n ≡ true
tails_moved ys xs y x (more m ms) ey ex ly lx p q = there_moved ms y.end x.end ly lx m.end (in_order_first y ys ey ly p).1 (in_order_first x xs ex lx q).1

-- the last suc k entries are one more and the last k
last_more : (es : List Entry) (k : ℕ) → suc k ≤ length es → last_of (suc k) es ≡ get_or es (length es - suc k) no_entry ∷ last_of k es
last_more es k h =
    let z : suc (length es - suc k) ≡ length es - k = omega arith in
    drop-cons es (length es - suc k) no_entry (omega arith) ∙ ap (λ (m : ℕ). get_or es (length es - suc k) no_entry ∷ drop m es) z

module _ (o n e : ℕ) (old new : List Entry) where
  -- what is counted meets document 01's words
  moved_there : (ys xs : List Entry) → are_moved ys xs o n ≡ true → AllThere o n ys xs
  unfolding are_moved
  moved_there [] [] h = none
  moved_there [] (x ∷ xs) h = let z : ◌≡◌ {A = ℕ} 0 1 = cc in absurd (omega arith)
  moved_there (y ∷ ys) [] h = let z : ◌≡◌ {A = ℕ} 0 1 = cc in absurd (omega arith)
  moved_there (y ∷ ys) (x ∷ xs) h =
      let p = and_true (is_moved o n y x) (are_moved ys xs o n) h in
      let m = test_moved o n y x p.0 in
      more (record { kind = m.kind_same; start = m.start_moved; end = m.end_moved; detail = m.detail_same }) (moved_there ys xs p.1)

  pub kept_there : KeptThere o n e old new (kept_behind o n e old new)
  kept_there =
      let b = kept_behind_holds o n e old new in
      let k : ℕ = kept_behind o n e old new in
      record { few_old = b.in-old; few_new = b.in-new; late = b.late; there = moved_there (last_of k old) (last_of k new) b.all_moved }

  -- and no k that does is more than one above it
  pub falls_by_one : (lo ln k : ℕ) → in_order_from old 0 lo ≡ true → in_order_from new 0 ln ≡ true → KeptThere o n e old new k → k ≤ suc (kept_behind o n e old new)
  unfolding all_behind
  falls_by_one lo ln zero p q t = omega arith
  falls_by_one lo ln (suc k) p q t =
      let y : Entry = get_or old (length old - suc k) no_entry in
      let x : Entry = get_or new (length new - suc k) no_entry in
      let ys : last_of (suc k) old ≡ y ∷ last_of k old = last_more old k t.few_old in
      let xs : last_of (suc k) new ≡ x ∷ last_of k new = last_more new k t.few_new in
      let po = in_order_drop old 0 lo (length old - suc k) p in
      let qo = in_order_drop new 0 ln (length new - suc k) q in
      let both : AllThere o n (y ∷ last_of k old) (x ∷ last_of k new) =
      subst (λ (l : List Entry). AllThere o n l (x ∷ last_of k new)) ys (subst (λ (l : List Entry). AllThere o n (last_of (suc k) old) l) xs t.there) in
      let moved = tails_moved (last_of k old) (last_of k new) y x both po.0 qo.0 lo ln
      (sym (ap (λ (l : List Entry). in_order_from l po.0 lo) ys) ∙ po.1) (sym (ap (λ (l : List Entry). in_order_from l qo.0 ln) xs) ∙ qo.1) in
      let late = (and_true (leb e x.start) (all_behind e (last_of k new)) (sym (ap (all_behind e) xs) ∙ t.late)).1 in
      let most = kept_behind_most o n e old new k (record { in-old = omega (arith, t.few_old); in-new = omega (arith, t.few_new); late = late; all_moved = moved }) in
      omega (arith, most)

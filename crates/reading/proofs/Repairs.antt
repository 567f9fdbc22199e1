-- What a repair goes by, over an old text and a new one: the entries kept before are read again, and the new reading joins the old one where an entry of it
-- starts where a moved old entry starts and its gap agrees. Assumes nothing.
use Prim.Native.Nat.{◌+◌, ◌<◌, ◌≤◌, suc, ℕ, ◌-◌}
use native.Mathlib.Nat.{sub-zero}
use native.Mathlib.Omega.{arith}
use mathlib.Core.Bool.{Bool, true}
use mathlib.Core.List.{map, List, [], ◌++◌, ◌∷◌, append_assoc}
use mathlib.Core.Path.{◌∙◌, ◌≡◌, ap, ap₂, refl, subst, sym}
use lib.ListN.{drop, length, take, take-append-drop}
use borrow.Author.Tests.{le-leb}
use Rattle.reading.proofs.Entries.{entries_complete, ▸-append}
use Rattle.reading.proofs.Joins.{Join, Moved, Shifted, join, move, moved_is, moved_test, place_moved, place_behind}
use Rattle.reading.proofs.KeptLaws.{All, Apart, kept-behind}
use Rattle.reading.proofs.QuietLaws.{at_quiet}
use Rattle.reading.proofs.Stable.{stable}
use Rattle.reading.specs.Kept.{Replaced, are_moved, kept_behind, last_quiet, all_behind}
use Rattle.reading.specs.Owed.{Laws}
use Rattle.reading.specs.Readings.{◌▸◌, Reading, end_of, entries, read_from, read_part}
use Rattle.reading.specs.Readings.Reading.{complete, entry}
use Rattle.reading.specs.Tokens.{Answer}
use Rattle.rows.specs.declared.Entry.{Entry}

-- ---- kept before

ends_early : (q : ℕ) (es : List Entry) (at : ℕ) → at < q → All (λ e. e.end < q) es → end_of at es < q
unfolding end_of
ends_early q [] at h a = h
ends_early q (e ∷ es) at h a = ends_early q es e.end a.0 a.1

module _ (tok : List ℕ → Answer) (quiet : ℕ → Bool) (laws : Laws tok quiet) where
  -- what ends before the last quiet byte of p does is read again in every text that begins with p
  pub resume_behind : (p x x' : List ℕ) (es : List Entry) (r : Reading) → All (λ e. e.end < last_quiet quiet p) es → read_part tok 0 (p ++ x) ≡ es ▸ r
      → read_part tok 0 (p ++ x') ≡ es ▸ read_from tok (p ++ x') (end_of 0 es)
  unfolding end_of
  resume_behind p x x' [] r a h = refl
  resume_behind p x x' (e ∷ es) r a h =
      let pos : 0 < last_quiet quiet p = omega (arith, a.0) in
      let k = at_quiet quiet p pos in
      let shape : (y : List ℕ) → p ++ y ≡ k.front ++ k.mark ∷ (k.back ++ y) = λ y. ap (λ (t : List ℕ). t ++ y) k.whole ∙ append_assoc k.front (k.mark ∷ k.back) y in
      let b : end_of 0 (e ∷ es) < last_quiet quiet p = ends_early (last_quiet quiet p) (e ∷ es) 0 pos a in
      let w = stable tok quiet laws (e ∷ es) 0 k.front (k.back ++ x) (k.back ++ x') k.mark r k.is_quiet (ap (read_part tok 0) (sym (shape x)) ∙ h) (omega (arith, k.reaches)) in
      ap (read_part tok 0) (shape x') ∙ w
      ∙ ap (λ (n : ℕ). (e ∷ es) ▸ read_part tok (end_of 0 (e ∷ es)) (drop n (k.front ++ k.mark ∷ (k.back ++ x')))) (sub-zero (end_of 0 (e ∷ es)))
      ∙ ap (λ (t : List ℕ). (e ∷ es) ▸ read_part tok (end_of 0 (e ∷ es)) (drop (end_of 0 (e ∷ es)) t)) (sym (shape x'))

  module _ (old new : List ℕ) (a b e : ℕ) (R : Replaced old new a b e) where
    -- the new reading begins with the entries kept before, and goes on behind the last of them
    pub resume : (es : List Entry) (r : Reading) → All (λ x. x.end < last_quiet quiet (take a old)) es → read_part tok 0 old ≡ es ▸ r
        → read_part tok 0 new ≡ es ▸ read_from tok new (end_of 0 es)
    resume es r early was =
        let whole : (s : List ℕ) → take a s ++ drop a s ≡ s = λ s. take-append-drop a s in
        let new_is : take a old ++ drop a new ≡ new = ap (λ (p : List ℕ). p ++ drop a new) (sym R.front) ∙ whole new in
        ap (read_part tok 0) (sym new_is)
        ∙ resume_behind (take a old) (drop a old) (drop a new) es r early (ap (read_part tok 0) (whole old) ∙ was)
        ∙ ap (λ (s : List ℕ). es ▸ read_from tok s (end_of 0 es)) new_is

    -- ---- kept behind: the new reading reaches, behind ns, an entry x that starts where the moved old entry y starts, and behind the same gap
    module _ (os ks ns : List Entry) (y x : Entry) (r : Reading)
        (was : read_part tok 0 old ≡ (os ++ y ∷ ks) ▸ complete)
        (now : read_part tok 0 new ≡ ns ▸ entry x r)
        (late : e ≤ x.start)
        (meets : x.start + length old ≡ y.start + length new)
        (gaps : x.gap ≡ y.gap) where
      abbrev o : ℕ
      o = length old

      abbrev n : ℕ
      n = length new

      -- the old entries from y on, moved
      abbrev pub moved_rest : List Entry
      moved_rest = map (move (length old) (length new)) (y ∷ ks)

      here : Join tok quiet laws o n y x (ks ▸ complete) r
      here = join tok quiet laws old new a b e R os ns y x (ks ▸ complete) r (was ∙ ▸-append os (y ∷ ks) complete) now late meets gaps

      behind_here : Shifted o n x.end here.behind ks
      behind_here = place_moved here.behind ks y.end x.end o n here.this_moved.end_moved (sym here.old_rest)

      first_is : x ≡ move o n y
      first_is = moved_is o n y x here.this_moved

      rest_is : entry x r ≡ moved_rest ▸ complete
      rest_is = ap₂ entry first_is (here.new_rest ∙ behind_here.shifted)

      -- the rest of the new reading is the old entries from y on, moved
      pub joined : read_part tok 0 new ≡ (ns ++ moved_rest) ▸ complete
      joined = now ∙ ap (λ (t : Reading). ns ▸ t) rest_is ∙ sym (▸-append ns moved_rest complete)

      -- and they are those kept behind, where no entry of ns starts so
      pub joined_kept : All (Apart (length old) (length new) e (os ++ y ∷ ks)) ns
          → kept_behind (length old) (length new) e (os ++ y ∷ ks) (entries (read_part tok 0 new)) ≡ suc (length ks)
      unfolding are_moved all_behind
      joined_kept apart =
          let all : are_moved (y ∷ ks) moved_rest o n ≡ true = rw (moved_test o n y (move o n y) (subst (Moved o n y) first_is here.this_moved)) behind_here.all_moved in
          let first-late : e ≤ y.start + n - o = omega (arith, late, meets) in
          let rest-late = place_behind here.behind (map (move o n) ks) x.end e complete (omega (arith, late, here.new-end)) behind_here.shifted in
          let starts : all_behind e moved_rest ≡ true = rw (le-leb e (y.start + n - o) first-late) rest-late in
          ap (kept_behind o n e (os ++ y ∷ ks)) (ap entries joined ∙ entries_complete (ns ++ moved_rest))
          ∙ kept-behind o n e os ns (y ∷ ks) moved_rest apart all starts

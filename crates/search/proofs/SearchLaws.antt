-- Laws of searches: runs that go on, that stop among so many bytes, and runs of two classes. Assumes nothing.
use Prim.Native.Nat.{ℕ, zero, suc, ◌+◌, ◌≤◌, ◌<◌}
use native.Mathlib.Nat.{add-zero, zero-add}
use native.Mathlib.Omega.{arith}
use mathlib.Core.Path.{◌≡◌, refl, sym, ap, ◌∙◌}
use mathlib.Core.Logic.{◌⊎◌, inl, inr}
use mathlib.Core.Bool.{Bool, true, false, not}
use mathlib.Core.List.{List, [], ◌∷◌}
use lib.Dec.{eqb, ltb}
use lib.ListN.{length, take, drop, get_or}
use borrow.Author.Tests.{lt-ltb, le-ltb, ltb-true, ltb-false}
use Rattle.std.specs.declared.option.Option.{Option}
use Rattle.std.specs.List.{position}
use Rattle.std.specs.Option.{unwrap_or}
use Rattle.text.specs.Runs.{run}
use Rattle.text.proofs.Choices.{bool_cases, either, lt_or_le}
use Rattle.text.proofs.RunLaws.{run_more, run_out, run_end}
use Rattle.text.proofs.RunPlaces.{run_place}
use Rattle.search.specs.inner.Others.{other, neither, at_most}

-- ---- at a place

-- a run of at least n bytes goes on behind them
pub run_past : (p : ℕ → Bool) (n : ℕ) (s : List ℕ) (i : ℕ) → n ≤ run p (drop i s) → run p (drop i s) ≡ n + run p (drop (i + n) s)
run_past p zero s i h = rw (add-zero i, zero-add)
run_past p (suc n) s i h =
    either (lt_or_le i (length s))
    (λ l. either (bool_cases (p (get_or s i 0)))
    (λ e.
    let one = run_more p s i l e in
    let j : i + 1 + n ≡ i + suc n = omega arith in
    one ∙ ap (λ (m : ℕ). 1 + m) (run_past p n s (i + 1) (omega (arith, one))) ∙ ap (λ (m : ℕ). 1 + (n + run p (drop m s))) j ∙ omega arith)
    (λ e. absurd (omega (arith, run_out p s i l e))))
    (λ g. absurd (omega (arith, run_end p s i g)))

module _ (p : ℕ → Bool) (s : List ℕ) (i k : ℕ) (h : i + k < length s) where
  -- a byte of another class ends the run
  pub found_now : p (get_or s (i + k) 0) ≡ false → ltb (run p (drop i s)) (k + 1) ≡ true
  found_now e =
      either (lt_or_le k (run p (drop i s)))
      (λ l. absurd (omega (arith, run_past p k s i (omega arith), run_out p s (i + k) h e)))
      (λ g. lt-ltb (run p (drop i s)) (k + 1) (omega arith))

  -- one of the class does not
  pub found_before : p (get_or s (i + k) 0) ≡ true → ltb (run p (drop i s)) (k + 1) ≡ ltb (run p (drop i s)) k
  found_before e =
      either (lt_or_le (run p (drop i s)) k)
      (λ l. lt-ltb (run p (drop i s)) (k + 1) (omega arith) ∙ sym (lt-ltb (run p (drop i s)) k l))
      (λ g.
      let m = run_more p s (i + k) h e in
      le-ltb (run p (drop i s)) (k + 1) (omega (arith, run_past p k s i g, m)) ∙ sym (le-ltb (run p (drop i s)) k g))

module _ (bound n : ℕ) where
  pub at_most_below : n < bound → at_most bound n ≡ n
  unfolding at_most
  at_most_below h = rw (lt-ltb n bound h)

  pub at_most_bound : bound ≤ n → at_most bound n ≡ bound
  unfolding at_most
  at_most_bound h = rw (le-ltb n bound h)

-- what `position` found, or all n bytes
pub run_or : (p : ℕ → Bool) (s : List ℕ) (n : ℕ) (r : Option ℕ) → length s ≡ n → r ≡ position (λ (x : ℕ). not (p x)) s → unwrap_or r n ≡ run p s
run_or p s n r l e = ap (λ (m : ℕ). unwrap_or r m) (sym l) ∙ run_place p s r e

-- a run among n bytes is no longer than n
pub run_take : (p : ℕ → Bool) (n : ℕ) (s : List ℕ) → run p (take n s) ≡ at_most n (run p s)
unfolding run
run_take p zero s = sym (at_most_bound 0 (run p s) (omega arith))
run_take p (suc n) [] = sym (at_most_below (suc n) 0 (omega arith))
run_take p (suc n) (x ∷ s) =
    either (bool_cases (p x))
    (λ e. rw e (ap suc (run_take p n s) ∙ one_more n (run p s)))
    (λ e. rw e (sym (at_most_below (suc n) 0 (omega arith))))
  where
    one_more : (n m : ℕ) → suc (at_most n m) ≡ at_most (suc n) (suc m)
    one_more n m =
        either (lt_or_le m n)
        (λ l. rw (at_most_below n m l, at_most_below (suc n) (suc m) (omega arith)))
        (λ g. rw (at_most_bound n m g, at_most_bound (suc n) (suc m) (omega arith)))

-- ---- two bytes

-- the first of two bytes is the nearer one
pub nearer : (a b : ℕ) (t : List ℕ) → (run (neither a b) t ≤ run (other a) t) × (run (neither a b) t ≤ run (other b) t)
    × ((run (neither a b) t ≡ run (other a) t) ⊎ (run (neither a b) t ≡ run (other b) t))
unfolding run other neither
nearer a b [] = (omega arith, omega arith, inl refl)
nearer a b (x ∷ t) =
    either (bool_cases (eqb x a))
    (λ e. rw e (omega arith, omega arith, inl refl))
    (λ e. either (bool_cases (eqb x b))
    (λ f. rw (e, f) (omega arith, omega arith, inr refl))
    (λ f.
    let h = nearer a b t in
    rw (e, f) (omega (arith, h.0), omega (arith, h.1), either h.2 (λ q. inl (ap suc q)) (λ q. inr (ap suc q)))))

module _ (a b : ℕ) (t : List ℕ) (n : ℕ) where
  pub either_first : ltb (run (other a) t) n ≡ true → ltb (run (neither a b) t) n ≡ true
  either_first e = lt-ltb (run (neither a b) t) n (omega (arith, ltb-true (run (other a) t) n e, (nearer a b t).0))

  pub either_second : ltb (run (other a) t) n ≡ false → ltb (run (neither a b) t) n ≡ ltb (run (other b) t) n
  either_second e =
      let far = ltb-false (run (other a) t) n e in
      let h = nearer a b t in
      either (lt_or_le (run (other b) t) n)
      (λ l. lt-ltb (run (neither a b) t) n (omega (arith, h.1)) ∙ sym (lt-ltb (run (other b) t) n l))
      (λ g. le-ltb (run (neither a b) t) n (either h.2 (λ q. omega arith) (λ q. omega arith)) ∙ sym (le-ltb (run (other b) t) n g))

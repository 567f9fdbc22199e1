-- Laws of runs, at an index of the text, as loops ask for them. Assumes nothing.
use Prim.Native.Nat.{ℕ, zero, suc, ◌+◌, ◌≤◌, ◌<◌}
use native.Mathlib.Nat.{add-zero, zero-add}
use native.Mathlib.Omega.{arith}
use mathlib.Core.Path.{◌≡◌, refl, sym, ap, ◌∙◌, subst}
use mathlib.Core.Bool.{Bool, true, false, not, cond}
use mathlib.Core.List.{List, [], ◌∷◌}
use lib.ListN.{length, drop, get_or, drop_of_length-le}
use lib.Dec.{ltb}
use borrow.Author.Tests.{ltb-false}
use Rattle.std.specs.List.{position, position_or_len}
use Rattle.std.specs.declared.option.Option.TheVariants.{Some, None}
use Rattle.text.specs.Runs.{run, run2}
use Rattle.text.proofs.Lists.{front, head_at}
use Rattle.text.proofs.Choices.{bool_cases, either}

-- ---- no run is longer than its text

pub run_le : (p : ℕ → Bool) (s : List ℕ) → run p s ≤ length s
unfolding run
run_le p [] = omega arith
run_le p (a ∷ s) = let h = run_le p s in either (bool_cases (p a)) (λ e. rw e (omega arith)) (λ e. rw e (omega arith))

pub run2_le : (p : ℕ → ℕ → Bool) (s : List ℕ) → run2 p s ≤ length s
unfolding run2
run2_le p [] = omega arith
run2_le p (a ∷ s) = let h = run2_le p s in either (bool_cases (p a (get_or s 0 0))) (λ e. rw e (omega arith)) (λ e. rw e (omega arith))

-- ---- a run at a place

module _ (p : ℕ → Bool) (s : List ℕ) (i : ℕ) where
  pub run_more : i < length s → p (get_or s i 0) ≡ true → run p (drop i s) ≡ 1 + run p (drop (i + 1) s)
  unfolding run
  run_more h e = rw (front s i h, e) (omega arith)

  pub run_out : i < length s → p (get_or s i 0) ≡ false → run p (drop i s) ≡ 0
  unfolding run
  run_out h e = rw (front s i h, e)

  pub run_end : length s ≤ i → run p (drop i s) ≡ 0
  unfolding run
  run_end h = rw (drop_of_length-le s h)

module _ (p : ℕ → ℕ → Bool) (s : List ℕ) (i : ℕ) where
  pub run2_more : i < length s → p (get_or s i 0) (get_or s (i + 1) 0) ≡ true → run2 p (drop i s) ≡ 1 + run2 p (drop (i + 1) s)
  unfolding run2
  run2_more h e = rw (front s i h, head_at s (i + 1), e) (omega arith)

  pub run2_out : i < length s → p (get_or s i 0) (get_or s (i + 1) 0) ≡ false → run2 p (drop i s) ≡ 0
  unfolding run2
  run2_out h e = rw (front s i h, head_at s (i + 1), e)

  pub run2_end : length s ≤ i → run2 p (drop i s) ≡ 0
  unfolding run2
  run2_end h = rw (drop_of_length-le s h)

-- many bytes of the class in a row are passed at once
pub run_many : (p : ℕ → Bool) (n : ℕ) (s : List ℕ) (i : ℕ) → i + n ≤ length s → ((k : ℕ) → k < n → p (get_or s (i + k) 0) ≡ true)
    → run p (drop i s) ≡ n + run p (drop (i + n) s)
run_many p zero s i h all = rw (add-zero, zero-add)
run_many p (suc n) s i h all =
    let e : i + 0 ≡ i = add-zero i in
    let first : p (get_or s i 0) ≡ true = rw e at (all 0 (omega arith)) in
    let next : (k : ℕ) → k < n → p (get_or s (i + 1 + k) 0) ≡ true = λ k l. subst (λ (j : ℕ). p (get_or s j 0) ≡ true) (omega arith) (all (suc k) (omega arith)) in
    let j : i + 1 + n ≡ i + suc n = omega arith in
    run_more p s i (omega arith) first
    ∙ ap (λ (m : ℕ). 1 + m) (run_many p n s (i + 1) (omega arith) next)
    ∙ ap (λ (m : ℕ). 1 + (n + run p (drop m s))) j
    ∙ omega arith

-- a run ends where `position` finds the first byte out of its class, and takes the whole text where there is none
run_position : (p : ℕ → Bool) (s : List ℕ) → position_or_len (λ (x : ℕ). not (p x)) s ≡ run p s
unfolding run
run_position p [] = refl
run_position p (a ∷ s) = either (bool_cases (p a)) (λ e. rw e (omega (arith, run_position p s))) (λ e. rw e)

module _ (p : ℕ → Bool) (s : List ℕ) where
  found_before_end : (n : ℕ) (b : Bool) → Some n ≡ cond b (Some (position_or_len (λ (x : ℕ). not (p x)) s)) None → position_or_len (λ (x : ℕ). not (p x)) s ≡ n
  found_before_end n true e = cc
  found_before_end n false e = cc

  pub run_found : (n : ℕ) → Some n ≡ position (λ (x : ℕ). not (p x)) s → run p s ≡ n
  run_found n e = sym (run_position p s) ∙ found_before_end n (ltb (position_or_len (λ (x : ℕ). not (p x)) s) (length s)) e

  found_nowhere : (b : Bool) → None ≡ cond b (Some (position_or_len (λ (x : ℕ). not (p x)) s)) None → b ≡ false
  found_nowhere true e = cc
  found_nowhere false e = refl

  pub run_whole : None ≡ position (λ (x : ℕ). not (p x)) s → run p s ≡ length s
  run_whole e = omega (arith, run_position p s, run_le p s, ltb-false _ _ (found_nowhere (ltb (position_or_len (λ (x : ℕ). not (p x)) s) (length s)) e))

-- each byte of a run is of its class
pub run_holds : (p : ℕ → Bool) (s : List ℕ) (k : ℕ) → k < run p s → p (get_or s k 0) ≡ true
unfolding run
run_holds p [] k h = absurd (omega arith)
run_holds p (a ∷ s) zero h = either (bool_cases (p a)) (λ e. e) (λ e. absurd (omega (arith, rw e at h)))
run_holds p (a ∷ s) (suc k) h =
    either (bool_cases (p a)) (λ e. run_holds p s k (omega (arith, rw e at h))) (λ e. absurd (omega (arith, rw e at h)))

-- The last quiet byte, found from the end. Assumes nothing.
use Prim.Native.Nat.{ℕ, suc, zero, ◌+◌, ◌-◌, ◌<◌, ◌≤◌}
use native.Mathlib.Omega.{arith}
use mathlib.Core.Bool.{Bool, true, false, cond}
use mathlib.Core.List.{List, [], ◌∷◌, ◌++◌}
use mathlib.Core.Path.{◌≡◌, ap, refl, sym, ◌∙◌}
use lib.Dec.{ltb}
use borrow.Author.Tests.{lt-ltb}
use lib.ListN.{length, take, get_or}
use lib.Seq.{length-take-le, take_all, take-suc}
use Rattle.reading.specs.Kept.{last_quiet}

module _ (quiet : ℕ → Bool) where
  last_last : (s : List ℕ) (b : ℕ) → last_quiet quiet (s ++ (b ∷ [])) ≡ cond (quiet b) (suc (length s)) (last_quiet quiet s)
  unfolding last_quiet
  last_last [] b = refl
  last_last (a ∷ s) b = go (quiet b) (last_quiet quiet (s ++ (b ∷ []))) (last_last s b)
    where
      go : (t : Bool) (n : ℕ) → n ≡ cond t (suc (length s)) (last_quiet quiet s)
          → cond (ltb 0 n) (suc n) (cond (quiet a) 1 0) ≡ cond t (suc (suc (length s))) (cond (ltb 0 (last_quiet quiet s)) (suc (last_quiet quiet s)) (cond (quiet a) 1 0))
      go true n e = ap (λ (k : ℕ). cond (ltb 0 k) (suc k) (cond (quiet a) 1 0)) e ∙ ap (λ (t : Bool). cond t (suc (suc (length s))) (cond (quiet a) 1 0)) (lt-ltb 0 (suc (length s)) (omega arith))
      go false n e = ap (λ (k : ℕ). cond (ltb 0 k) (suc k) (cond (quiet a) 1 0)) e

  module _ (s : List ℕ) (i : ℕ) (pos : 0 < i) (h : i ≤ length s) where
    at_end : last_quiet quiet (take i s) ≡ cond (quiet (get_or s (i - 1) 0)) i (last_quiet quiet (take (i - 1) s))
    at_end =
        let z : i ≡ suc (i - 1) = omega arith in
        let l : suc (length (take (i - 1) s)) ≡ i = omega (arith, length-take-le (i - 1) s (omega arith)) in
        ap (λ (n : ℕ). last_quiet quiet (take n s)) z
        ∙ ap (last_quiet quiet) (take-suc s (i - 1) 0 (omega arith))
        ∙ last_last (take (i - 1) s) (get_or s (i - 1) 0)
        ∙ ap (λ (n : ℕ). cond (quiet (get_or s (i - 1) 0)) n (last_quiet quiet (take (i - 1) s))) l

    pub quiet_here : quiet (get_or s (i - 1) 0) ≡ true → i ≡ last_quiet quiet (take i s)
    quiet_here e = sym (at_end ∙ ap (λ (t : Bool). cond t i (last_quiet quiet (take (i - 1) s))) e)

    pub quiet_before : quiet (get_or s (i - 1) 0) ≡ false → last_quiet quiet (take (i - 1) s) ≡ last_quiet quiet (take i s)
    quiet_before e = sym (at_end ∙ ap (λ (t : Bool). cond t i (last_quiet quiet (take (i - 1) s))) e)

  pub quiet_starts : (s : List ℕ) → last_quiet quiet (take (length s) s) ≡ last_quiet quiet s
  quiet_starts s = ap (last_quiet quiet) (take_all (length s) s (omega arith))

  pub quiet_none : (s : List ℕ) (i : ℕ) → i ≤ 0 → 0 ≡ last_quiet quiet (take i s)
  unfolding last_quiet
  quiet_none s i h = let z : i ≡ 0 = omega arith in sym (ap (λ (n : ℕ). last_quiet quiet (take n s)) z)

  stays : (s : List ℕ) (i d : ℕ) → i + d ≤ length s → ((k : ℕ) → i ≤ k → k < length s → quiet (get_or s k 0) ≡ false) → last_quiet quiet (take (i + d) s) ≡ last_quiet quiet (take i s)
  stays s i zero h none = let z : i + 0 ≡ i = omega arith in ap (λ (n : ℕ). last_quiet quiet (take n s)) z
  stays s i (suc d) h none =
      let z : i + suc d - 1 ≡ i + d = omega arith in
      sym (quiet_before s (i + suc d) (omega arith) h (none (i + suc d - 1) (omega arith) (omega arith)))
      ∙ ap (λ (n : ℕ). last_quiet quiet (take n s)) z
      ∙ stays s i d (omega arith) none

  -- the byte at i is quiet, and none behind it
  pub quiet_last : (s : List ℕ) (i : ℕ) → i < length s → quiet (get_or s i 0) ≡ true → ((k : ℕ) → i + 1 ≤ k → k < length s → quiet (get_or s k 0) ≡ false) → i + 1 ≡ last_quiet quiet s
  quiet_last s i h q none =
      let z : i + 1 - 1 ≡ i = omega arith in
      let w : i + 1 + (length s - (i + 1)) ≡ length s = omega arith in
      quiet_here s (i + 1) (omega arith) (omega arith) (ap (λ (n : ℕ). quiet (get_or s n 0)) z ∙ q)
      ∙ sym (stays s (i + 1) (length s - (i + 1)) (omega arith) none)
      ∙ ap (λ (n : ℕ). last_quiet quiet (take n s)) w
      ∙ quiet_starts s

  pub none_quiet : (s : List ℕ) → ((k : ℕ) → k < length s → quiet (get_or s k 0) ≡ false) → 0 ≡ last_quiet quiet s
  none_quiet s none =
      let w : 0 + length s ≡ length s = omega arith in
      quiet_none s 0 (omega arith)
      ∙ sym (stays s 0 (length s) (omega arith) (λ k _ h. none k h))
      ∙ ap (λ (n : ℕ). last_quiet quiet (take n s)) w
      ∙ quiet_starts s

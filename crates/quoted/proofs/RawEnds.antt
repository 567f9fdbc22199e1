-- Hashes, and the first quote with so many of them behind it. Assumes nothing.
use Prim.Native.Nat.{ℕ, suc, zero, ◌<◌, ◌≤◌}
use native.Mathlib.Omega.{arith}
use mathlib.Core.Bool.{◌&&◌, true}
use mathlib.Core.List.{List, [], ◌∷◌, ◌++◌}
use mathlib.Core.Path.{◌≡◌, ap, refl, subst, sym}
use lib.Dec.{eqb, leb}
use lib.ListN.{drop, length, length-replicate}
use borrow.Author.Tests.{eq-eqb, eqb-true, le-leb, leb-true}
use Rattle.quoted.specs.Literals.{RawEnds, hashes}
use Rattle.strings.specs.Raw.{hash, raw_end}
use Rattle.text.proofs.Choices.{and_true, bool_cases, either, lt_or_le}
use Rattle.text.specs.Runs.{run}

-- ---- hashes

-- n hashes are n bytes
pub hashes_long : (n : ℕ) → length (hashes n) ≡ n
hashes_long n = length-replicate n 0x23

-- a run of at least n hashes begins with n of them
pub hashes_run : (n : ℕ) (s : List ℕ) → n ≤ run hash s → s ≡ hashes n ++ drop n s
unfolding run
hashes_run zero s h = refl
hashes_run (suc n) [] h = absurd (omega arith)
hashes_run (suc n) (b ∷ s) h =
    either (bool_cases (hash b))
    (λ e. let i : suc n ≤ suc (run hash s) = rw e at h in let q = hashes_run n s (omega arith) in rw (eqb-true b 0x23 e) (ap (λ (x : List ℕ). 0x23 ∷ x) q))
    (λ e. let i : suc n ≤ 0 = rw e at h in absurd (omega arith))

-- n hashes are a run of at least n
pub run_hashes : (n : ℕ) (s : List ℕ) → n ≤ run hash (hashes n ++ s)
unfolding run
run_hashes zero s = omega arith
run_hashes (suc n) s = let h = run_hashes n s in omega arith

-- and of exactly n before a quote
pub run_exact : (n : ℕ) (s : List ℕ) → run hash (hashes n ++ 0x22 ∷ s) ≡ n
unfolding run
run_exact zero s = refl
run_exact (suc n) s = ap suc (run_exact n s)

-- ---- the first end

-- where a quote with n hashes stands, the test holds
ends_test : (n b : ℕ) (s : List ℕ) → RawEnds n (b ∷ s) → (eqb b 0x22 && leb n (run hash s)) ≡ true
ends_test n b s x =
    let e = x.1 in
    let p : b ≡ 0x22 = cc in
    let q : s ≡ hashes n ++ x.0 = cc in
    rw (eq-eqb b 0x22 p) (le-leb n (run hash s) (subst (λ (l : List ℕ). n ≤ run hash l) (sym q) (run_hashes n x.0)))

-- and where it holds, one stands
test_ends : (n b : ℕ) (s : List ℕ) → (eqb b 0x22 && leb n (run hash s)) ≡ true → b ∷ s ≡ 0x22 ∷ (hashes n ++ drop n s)
test_ends n b s e =
    let p = and_true (eqb b 0x22) (leb n (run hash s)) e in
    let q : b ≡ 0x22 = eqb-true b 0x22 p.0 in
    let r : s ≡ hashes n ++ drop n s = hashes_run n s (leb-true n (run hash s) p.1) in
    rw q (ap (λ (x : List ℕ). 0x22 ∷ x) r)

-- where the search stops within s, an end stands
pub raw_stops : (n : ℕ) (s : List ℕ) → raw_end n s < length s → drop (raw_end n s) s ≡ 0x22 ∷ (hashes n ++ drop n (drop (suc (raw_end n s)) s))
unfolding raw_end
raw_stops n [] h = absurd (omega arith)
raw_stops n (b ∷ s) h =
    let rest : raw_end n s < length s → drop (raw_end n s) s ≡ 0x22 ∷ (hashes n ++ drop n (drop (suc (raw_end n s)) s)) = raw_stops n s in
    either (bool_cases (eqb b 0x22 && leb n (run hash s)))
    (λ e. rw e (test_ends n b s e))
    (λ e. let i : suc (raw_end n s) < suc (length s) = rw e at h in rw e (rest (omega arith)))

-- and none before
pub raw_first : (n : ℕ) (s : List ℕ) (k : ℕ) → k < raw_end n s → RawEnds n (drop k s) → ⊥
unfolding raw_end
raw_first n [] k h x = omega arith
raw_first n (b ∷ s) zero h x =
    let e = ends_test n b s x in
    let i : 0 < 0 = rw e at h in omega arith
raw_first n (b ∷ s) (suc k) h x =
    let rest : k < raw_end n s → ⊥ = λ i. raw_first n s k i x in
    either (bool_cases (eqb b 0x22 && leb n (run hash s)))
    (λ e. let i : suc k < 0 = rw e at h in omega arith)
    (λ e. let i : suc k < suc (raw_end n s) = rw e at h in rest (omega arith))

-- so the search stops at an end before which none stands
pub raw_only : (n : ℕ) (s : List ℕ) (k : ℕ) → k < length s → RawEnds n (drop k s) → ((j : ℕ) → j < k → RawEnds n (drop j s) → ⊥) → raw_end n s ≡ k
raw_only n s k h x f =
    either (lt_or_le (raw_end n s) k)
    (λ i. absurd (f (raw_end n s) i (drop n (drop (suc (raw_end n s)) s), raw_stops n s (omega arith))))
    (λ i. either (lt_or_le k (raw_end n s)) (λ j. absurd (raw_first n s k j x)) (λ j. omega arith))

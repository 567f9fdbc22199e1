-- Characters of a class stop at an ASCII byte that is not of it: nothing behind that byte changes how far they reach. Assumes nothing.
use Prim.Native.Nat.{◌<◌, ◌≤◌, suc, zero, ℕ}
use native.Mathlib.Nat.{le_of_suc-le-suc, not-suc-le-zero}
use native.Mathlib.Omega.{arith}
use mathlib.Core.Bool.{Bool, false}
use mathlib.Core.List.{List, [], ◌++◌, ◌∷◌}
use mathlib.Core.Path.{◌∙◌, ◌≡◌, ap, refl, sym}
use lib.ListN.{length}
use Rattle.text.proofs.AheadLaws.{char_here, char_reach}
use Rattle.names.specs.Characters.{char_if, chars_from, by_char_width, chars}
use Rattle.text.proofs.Stops.{Reach}

module _ (c : ℕ) (h : c < 0x80) where
  module _ (p : ℕ → Bool) (out : p c ≡ false) where
    -- ---- a run of them
    abbrev behind_first : List ℕ → ℕ → ℕ
    behind_first s n = suc (chars_from p s n)

    first_same : (u v v' : List ℕ) (k : ℕ) → k ≤ suc (length u) → ((n : ℕ) → n ≤ length u → chars_from p (u ++ c ∷ v) n ≡ chars_from p (u ++ c ∷ v') n)
        → by_char_width k (behind_first (u ++ c ∷ v)) ≡ by_char_width k (behind_first (u ++ c ∷ v'))
    first_same u v v' zero l f = refl
    first_same u v v' (suc k) l f = ap suc (f k (le_of_suc-le-suc l))

    run_same : (u v v' : List ℕ) (n : ℕ) → n ≤ length u → chars_from p (u ++ c ∷ v) n ≡ chars_from p (u ++ c ∷ v') n
    unfolding chars_from
    run_same [] v v' (suc n) l = absurd (not-suc-le-zero l)
    run_same [] v v' zero l = ap (λ (k : ℕ). by_char_width k (behind_first v)) (char_here c h p out v) ∙ sym (ap (λ (k : ℕ). by_char_width k (behind_first v')) (char_here c h p out v'))
    run_same (x ∷ u) v v' (suc n) l = ap suc (run_same u v v' n (le_of_suc-le-suc l))
    run_same (x ∷ u) v v' zero l =
        ap (λ (k : ℕ). by_char_width k (behind_first (u ++ c ∷ v))) ((char_reach c h p out).stopped.same (x ∷ u) v v')
        ∙ first_same u v v' (char_if p ((x ∷ u) ++ c ∷ v')) ((char_reach c h p out).short (x ∷ u) v') (λ n m. run_same u v v' n m)

    first_short : (u v : List ℕ) (k : ℕ) → k ≤ suc (length u) → ((n : ℕ) → n ≤ length u → chars_from p (u ++ c ∷ v) n ≤ length u)
        → by_char_width k (behind_first (u ++ c ∷ v)) ≤ suc (length u)
    first_short u v zero l f = omega arith
    first_short u v (suc k) l f = let m = f k (le_of_suc-le-suc l) in omega arith

    run_short : (u v : List ℕ) (n : ℕ) → n ≤ length u → chars_from p (u ++ c ∷ v) n ≤ length u
    unfolding chars_from
    run_short [] v (suc n) l = absurd (not-suc-le-zero l)
    run_short [] v zero l = rw (char_here c h p out v) (omega arith)
    run_short (x ∷ u) v (suc n) l = let m = run_short u v n (le_of_suc-le-suc l) in omega arith
    run_short (x ∷ u) v zero l = first_short u v (char_if p ((x ∷ u) ++ c ∷ v)) ((char_reach c h p out).short (x ∷ u) v) (λ n m. run_short u v n m)

    pub chars_reach : Reach c (chars p)
    unfolding chars
    chars_reach = record { stopped = record { same = λ u v v'. run_same u v v' 0 (omega arith) }; short = λ u v. run_short u v 0 (omega arith) }

-- Quiet bytes: a test of all of them at once, and the last one of a text. Assumes nothing.
use Prim.Native.Nat.{◌<◌, ◌≤◌, suc, zero, ℕ}
use native.Mathlib.Nat.{not-suc-le-zero}
use native.Mathlib.Omega.{arith}
use mathlib.Core.Bool.{Bool, ◌||◌, cond, false, true}
use mathlib.Core.List.{List, [], ◌++◌, ◌∷◌}
use mathlib.Core.Path.{◌∙◌, ◌≡◌, ap, refl, sym}
use lib.Dec.{leb-suc-suc, ltb}
use lib.Ieee.{eq}
use lib.ListN.{drop, length}
use borrow.Author.Tests.{le-ltb, lt-ltb}
use Rattle.reading.specs.Kept.{any_quiet, last_quiet}
use Rattle.reading.specs.Owed.{quiet_byte, quiet_bytes}
use Rattle.text.proofs.Choices.{cond_cases}
use Rattle.text.proofs.ClassLaws.{all_of, one_of_all}

-- ---- what holds of each of them

pub quiet_all : (p : ℕ → Bool) (c : ℕ) → all_of p quiet_bytes ≡ true → quiet_byte c ≡ true → p c ≡ true
unfolding quiet_byte
quiet_all p c h e = one_of_all p quiet_bytes c h e

-- ---- the last quiet byte

module _ (quiet : ℕ → Bool) where
  rest_here : (m : ℕ) (q any : Bool) → any ≡ ltb 0 m → q || any ≡ ltb 0 (cond (ltb 0 m) (suc m) (cond q 1 0))
  rest_here zero true any h = refl
  rest_here zero false any h = h
  rest_here (suc m) true any h = rw (lt-ltb 0 (suc m) (omega arith)) (sym (lt-ltb 0 (suc (suc m)) (omega arith)))
  rest_here (suc m) false any h = rw (lt-ltb 0 (suc m) (omega arith)) (h ∙ lt-ltb 0 (suc m) (omega arith) ∙ sym (lt-ltb 0 (suc (suc m)) (omega arith)))

  rest_later : (m n : ℕ) (q any : Bool) → any ≡ ltb n m → any ≡ ltb (suc n) (cond (ltb 0 m) (suc m) (cond q 1 0))
  rest_later zero n true any h = h ∙ le-ltb n 0 (omega arith) ∙ sym (le-ltb (suc n) 1 (omega arith))
  rest_later zero n false any h = h ∙ le-ltb n 0 (omega arith) ∙ sym (le-ltb (suc n) 0 (omega arith))
  rest_later (suc m) n q any h = rw (lt-ltb 0 (suc m) (omega arith)) (h ∙ sym (leb-suc-suc (suc n) (suc m)))

  -- there is a quiet byte from n on where the last one stands there
  pub quiet_behind : (s : List ℕ) (n : ℕ) → any_quiet quiet (drop n s) ≡ ltb n (last_quiet quiet s)
  unfolding any_quiet last_quiet
  quiet_behind [] zero = refl
  quiet_behind [] (suc n) = sym (le-ltb (suc n) 0 (omega arith))
  quiet_behind (b ∷ s) zero = rest_here (last_quiet quiet s) (quiet b) (any_quiet quiet s) (quiet_behind s zero)
  quiet_behind (b ∷ s) (suc n) = rest_later (last_quiet quiet s) n (quiet b) (any_quiet quiet (drop n s)) (quiet_behind s n)

  pub last_le : (s : List ℕ) → last_quiet quiet s ≤ length s
  unfolding last_quiet
  last_le [] = omega arith
  last_le (b ∷ s) =
      let h = last_le s in
      cond_cases (λ (m : ℕ). m ≤ suc (length s)) (ltb 0 (last_quiet quiet s)) (suc (last_quiet quiet s)) (cond (quiet b) 1 0) (λ e. omega arith)
      (λ e. cond_cases (λ (m : ℕ). m ≤ suc (length s)) (quiet b) 1 0 (λ f. omega arith) (λ f. omega arith))

  -- a text taken apart at its last quiet byte
  pub record AtQuiet (s : List ℕ) : Type 0 where
    pub front : List ℕ
    pub mark : ℕ
    pub back : List ℕ
    pub whole : s ≡ front ++ mark ∷ back
    pub is_quiet : quiet mark ≡ true
    pub reaches : suc (length front) ≡ last_quiet quiet s

  pub at_quiet : (s : List ℕ) → 0 < last_quiet quiet s → AtQuiet s
  unfolding last_quiet
  at_quiet [] h = absurd (not-suc-le-zero h)
  at_quiet (b ∷ s) h = go (last_quiet quiet s) (quiet b) refl refl (λ p. at_quiet s p)
    where
      go : (m : ℕ) (q : Bool) → last_quiet quiet s ≡ m → quiet b ≡ q → (0 < last_quiet quiet s → AtQuiet s) → AtQuiet (b ∷ s)
      go (suc m) q em eq ih =
          let k = ih (omega arith) in
          record {
            front = b ∷ k.front;
            mark = k.mark;
            back = k.back;
            whole = ap (λ (t : List ℕ). b ∷ t) k.whole;
            is_quiet = k.is_quiet;
            reaches = ap suc k.reaches ∙ rw (lt-ltb 0 (last_quiet quiet s) (omega arith));
          }
      go zero true em eq ih = record { front = []; mark = b; back = s; whole = refl; is_quiet = eq; reaches = rw (em, eq) }
      go zero false em eq ih = let z : last_quiet quiet (b ∷ s) ≡ 0 = rw (em, eq) in absurd (omega arith)

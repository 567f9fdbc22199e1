-- Laws of words at the front of a part, and what stops them. Assumes nothing.
use Prim.Native.Nat.{ℕ, ◌≤◌, ◌<◌}
use native.Mathlib.Omega.{arith}
use mathlib.Core.Bool.{Bool, true, false, ◌&&◌}
use mathlib.Core.List.{List, [], ◌∷◌, ◌++◌}
use mathlib.Core.Path.{◌≡◌, refl, sym, ap, ◌∙◌}
use lib.Dec.{eqb, leb}
use lib.ListN.{length, get_or}
use borrow.Author.Tests.{eqb-true, le-leb, ne_eqb}
use Rattle.text.specs.Words.{starts_with}
use Rattle.text.proofs.Choices.{and_false, and_one, and_true, bool_cases, either}
use Rattle.text.proofs.ClassLaws.{all_of}
use Rattle.text.proofs.Stops.{Stopped}

-- ---- a word that stands at the front lies within the part

pub starts_le : (word t : List ℕ) → starts_with word t ≡ true → length word ≤ length t
unfolding starts_with
starts_le [] t e = omega arith
starts_le (w ∷ ws) [] e = let z : ◌≡◌ {A = ℕ} 0 1 = cc in absurd (omega arith)
starts_le (w ∷ ws) (c ∷ cs) e = omega (arith, starts_le ws cs (and_true (eqb c w) (starts_with ws cs) e).1)

pub starts_over : (word t : List ℕ) → length t < length word → starts_with word t ≡ false
starts_over word t h = either (bool_cases (starts_with word t)) (λ e. absurd (omega (arith, starts_le word t e))) (λ e. e)

-- ---- its first byte is the part's

pub starts_head : (w : ℕ) (ws t : List ℕ) → starts_with (w ∷ ws) t ≡ true → get_or t 0 0 ≡ w
unfolding starts_with
starts_head w ws [] e = let z : ◌≡◌ {A = ℕ} 0 1 = cc in absurd (omega arith)
starts_head w ws (c ∷ cs) e = eqb-true c w (and_true (eqb c w) (starts_with ws cs) e).0

pub starts_other : (w : ℕ) (ws t : List ℕ) → eqb (get_or t 0 0) w ≡ false → starts_with (w ∷ ws) t ≡ false
unfolding starts_with
starts_other w ws [] n = refl
starts_other w ws (c ∷ cs) n = rw n

-- ---- words of two and three bytes, by places

pub starts_two : (a b : ℕ) (t : List ℕ) → starts_with (a ∷ b ∷ []) t ≡ (leb 2 (length t) && (eqb (get_or t 0 0) a && eqb (get_or t 1 0) b))
unfolding starts_with
starts_two a b [] = refl
starts_two a b (x ∷ []) = and_false (eqb x a)
starts_two a b (x ∷ y ∷ t) = rw (le-leb 2 (length (x ∷ y ∷ t)) (omega arith), and_one (eqb y b))

pub starts_three : (a b c : ℕ) (t : List ℕ) → starts_with (a ∷ b ∷ c ∷ []) t ≡ (leb 3 (length t) && (eqb (get_or t 0 0) a && (eqb (get_or t 1 0) b && eqb (get_or t 2 0) c)))
unfolding starts_with
starts_three a b c [] = refl
starts_three a b c (x ∷ []) = and_false (eqb x a)
starts_three a b c (x ∷ y ∷ []) = rw (and_false (eqb y b)) (and_false (eqb x a))
starts_three a b c (x ∷ y ∷ z ∷ t) = rw (le-leb 3 (length (x ∷ y ∷ z ∷ t)) (omega arith), and_one (eqb z c))

-- ---- a byte outside of a word's class stops the word

module _ (p : ℕ → Bool) (c : ℕ) (out : p c ≡ false) where
  pub differs : (w : ℕ) → p w ≡ true → eqb c w ≡ false
  differs w e = ne_eqb c w (λ q. let z : true ≡ false = sym e ∙ ap p (sym q) ∙ out in let k : ◌≡◌ {A = ℕ} 0 1 = cc in absurd (omega arith))

  starts_same : (word : List ℕ) → all_of p word ≡ true → (u v v' : List ℕ) → starts_with word (u ++ c ∷ v) ≡ starts_with word (u ++ c ∷ v')
  unfolding starts_with
  starts_same [] h u v v' = refl
  starts_same (w ∷ ws) h [] v v' = rw (differs w (and_true (p w) (all_of p ws) h).0)
  starts_same (w ∷ ws) h (x ∷ u) v v' = ap (λ (b : Bool). eqb x w && b) (starts_same ws (and_true (p w) (all_of p ws) h).1 u v v')

  pub starts_stopped : (word : List ℕ) → all_of p word ≡ true → Stopped c (starts_with word)
  starts_stopped word h = record { same = starts_same word h }

  -- a word that stands there ends in front of the byte
  pub starts_short : (word : List ℕ) → all_of p word ≡ true → (u v : List ℕ) → starts_with word (u ++ c ∷ v) ≡ true → length word ≤ length u
  unfolding starts_with
  starts_short [] h u v e = omega arith
  starts_short (w ∷ ws) h [] v e = let q = rw (differs w (and_true (p w) (all_of p ws) h).0) at e in let z : ◌≡◌ {A = ℕ} 0 1 = cc in absurd (omega arith)
  starts_short (w ∷ ws) h (x ∷ u) v e =
      omega (arith, starts_short ws (and_true (p w) (all_of p ws) h).1 u v (and_true (eqb x w) (starts_with ws (u ++ c ∷ v)) e).1)

  pub starts_past : (word : List ℕ) → all_of p word ≡ true → (u v : List ℕ) → length u < length word → starts_with word (u ++ c ∷ v) ≡ false
  starts_past word h u v l =
      either (bool_cases (starts_with word (u ++ c ∷ v))) (λ e. absurd (omega (arith, starts_short word h u v e))) (λ e. e)

-- Laws of words at the front of a part. Assumes nothing.
use Prim.Native.Nat.{ℕ, ◌≤◌}
use native.Mathlib.Omega.{arith}
use mathlib.Core.List.{List, [], ◌∷◌}
use mathlib.Core.Bool.{false, true}
use mathlib.Core.Path.{◌≡◌, refl}
use lib.Dec.{eqb}
use lib.ListN.{length, get_or, drop}
use borrow.Author.Tests.{eq-eqb, ne_eqb}
use Rattle.integers.specs.Words.{ident_at, ident_of, Word, first_of}
use Rattle.text.proofs.Choices.{bool_cases, either}
use Rattle.text.proofs.WordLaws.{starts_le, starts_other}
use Rattle.text.specs.Ahead.{next_ahead}
use Rattle.text.specs.Words.{starts_with}

-- ---- a word that stands at the front lies within the part

pub ident_le : (word t : List ℕ) → ident_of word t ≤ length t
unfolding ident_of
ident_le word t =
    either (bool_cases (starts_with word t)) (λ a.
    either (bool_cases (next_ahead (drop (length word) t))) (λ b. rw (a, b) (omega arith)) (λ b. rw (a, b) (starts_le word t a)))
    (λ a. rw a (omega arith))

-- ---- its length, by whether it stands there

module _ (word t : List ℕ) where
  pub ident_here : ident_at word t ≡ true → ident_of word t ≡ length word
  unfolding ident_at ident_of
  ident_here e =
      either (bool_cases (starts_with word t)) (λ a.
      either (bool_cases (next_ahead (drop (length word) t))) (λ b. let z : false ≡ true = simp (a, b) at e in cc) (λ b. rw (a, b) refl))
      (λ a. let z : false ≡ true = simp a at e in cc)

  pub ident_none : ident_at word t ≡ false → ident_of word t ≡ 0
  unfolding ident_at ident_of
  ident_none e =
      either (bool_cases (starts_with word t)) (λ a.
      either (bool_cases (next_ahead (drop (length word) t))) (λ b. rw (a, b) refl) (λ b. let z : true ≡ false = simp (a, b) at e in cc))
      (λ a. rw a refl)

-- ---- tables of words

module _ (w : Word) (ws : List Word) (t : List ℕ) where
  pub first_more : ident_of w.letters t ≡ 0 → first_of (w ∷ ws) t ≡ first_of ws t
  unfolding first_of
  first_more e = rw (eq-eqb (ident_of w.letters t) 0 e)

  pub first_here : (ident_of w.letters t ≡ 0 → ⊥) → first_of (w ∷ ws) t ≡ record { code = w.says; end = ident_of w.letters t }
  unfolding first_of
  first_here e = rw (ne_eqb (ident_of w.letters t) 0 e)

pub first_le : (ws : List Word) (t : List ℕ) → (first_of ws t).end ≤ length t
unfolding first_of
first_le [] t = omega arith
first_le (w ∷ ws) t =
    either (bool_cases (eqb (ident_of w.letters t) 0)) (λ a. rw a (first_le ws t)) (λ a. rw a (ident_le w.letters t))

-- a word with another first letter does not stand there
pub other_first : (w : ℕ) (ws t : List ℕ) → (get_or t 0 0 ≡ w → ⊥) → ident_of (w ∷ ws) t ≡ 0
unfolding ident_of
other_first w ws t n = rw (starts_other w ws t (ne_eqb (get_or t 0 0) w n))

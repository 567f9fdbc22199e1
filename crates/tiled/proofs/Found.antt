-- A word found at the front of a part stands there. Assumes nothing.
use Prim.Native.Nat.{ℕ, ◌+◌, ◌≤◌}
use native.Mathlib.Omega.{arith}
use mathlib.Core.Bool.{true, false}
use mathlib.Core.List.{List, [], ◌∷◌, ◌++◌, append_assoc}
use mathlib.Core.Logic.{◌⊎◌, inl, inr}
use mathlib.Core.Path.{◌≡◌, ap, refl, sym, ◌∙◌}
use lib.Dec.{eqb}
use lib.ListN.{drop, length, take, take-append-drop}
use lib.Seq.{drop-drop, length-take-le}
use borrow.Author.Tests.{eqb-false, eqb-true}
use Rattle.text.proofs.Choices.{and_true, bool_cases, cond_cases, either}
use Rattle.text.specs.Ahead.{next_ahead}
use Rattle.text.specs.Words.{starts_with}
use Rattle.integers.specs.Words.{Word, first_of, ident_of, nothing_found}
use Rattle.integers.specs.declared.ident.Found.{Found}

-- a part that begins with a word is the word and what stands behind it
pub starts_split : (word t : List ℕ) → starts_with word t ≡ true → t ≡ word ++ drop (length word) t
unfolding starts_with
starts_split [] t e = refl
starts_split (w ∷ ws) [] e = let z : ◌≡◌ {A = ℕ} 0 1 = cc in absurd (omega arith)
starts_split (w ∷ ws) (c ∷ cs) e =
    let p = and_true (eqb c w) (starts_with ws cs) e in
    let q : c ≡ w = eqb-true c w p.0 in
    let r : cs ≡ ws ++ drop (length ws) cs = starts_split ws cs p.1 in
    ap (λ (x : ℕ). x ∷ cs) q ∙ ap (λ (x : List ℕ). w ∷ x) r

-- a word's length is told only where it stands
ident_stands : (word t : List ℕ) → eqb (ident_of word t) 0 ≡ false → (starts_with word t ≡ true) × (ident_of word t ≡ length word)
unfolding ident_of
ident_stands word t =
    cond_cases (λ (n : ℕ). eqb n 0 ≡ false → (starts_with word t ≡ true) × (n ≡ length word)) (starts_with word t) _ 0
    (λ p. cond_cases (λ (n : ℕ). eqb n 0 ≡ false → (starts_with word t ≡ true) × (n ≡ length word)) (next_ahead (drop (length word) t)) 0 (length word)
    (λ q e. absurd (eqb-false 0 0 e refl))
    (λ q e. (p, refl)))
    (λ p e. absurd (eqb-false 0 0 e refl))

-- each word of a table, with what it says, is of the relation
abbrev pub Each : (ℕ → List ℕ → Type 0) → List Word → Type 0
Each P [] = Unit {0}
Each P (w ∷ ws) = P w.says w.letters × Each P ws

-- what was found at the front of t: letters of the relation, and then what is left of t
pub record Stands (P : ℕ → List ℕ → Type 0) (f : Found) (t : List ℕ) : Type 0 where
  pub letters : List ℕ
  pub is : P f.code letters
  pub split : t ≡ letters ++ drop f.end t

-- a word of the table stands there, or none was found
pub first_stands : (P : ℕ → List ℕ → Type 0) (ws : List Word) (t : List ℕ) → Each P ws → (first_of ws t ≡ nothing_found) ⊎ Stands P (first_of ws t) t
unfolding first_of
first_stands P [] t k = inl refl
first_stands P (w ∷ ws) t k =
    either (bool_cases (eqb (ident_of w.letters t) 0))
    (λ p. rw p (first_stands P ws t k.1))
    (λ p. let q = ident_stands w.letters t p in rw p (inr record {
      letters = w.letters;
      is = k.0;
      split = starts_split w.letters t q.0 ∙ ap (λ (n : ℕ). w.letters ++ drop n t) (sym q.1);
    }))

-- n bytes of s, then letters, then what is left
pub joined : (n m : ℕ) (s x : List ℕ) → n ≤ length s → drop n s ≡ x ++ drop m (drop n s) → s ≡ (take n s ++ x) ++ drop (length (take n s) + m) s
joined n m s x h e =
    sym (take-append-drop n s)
    ∙ ap (λ (y : List ℕ). take n s ++ y) e
    ∙ sym (append_assoc (take n s) x (drop m (drop n s)))
    ∙ ap (λ (y : List ℕ). (take n s ++ x) ++ y) (drop-drop m n s ∙ ap (λ (k : ℕ). drop (k + m) s) (sym (length-take-le n s h)))

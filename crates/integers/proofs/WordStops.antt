-- A byte outside of a word's class stops the word. Assumes nothing.
use Prim.Native.Nat.{◌<◌, ◌≤◌, ℕ}
use native.Mathlib.Omega.{arith}
use mathlib.Core.Bool.{Bool, ◌&&◌, cond, false, true}
use mathlib.Core.List.{List, [], ◌∷◌, ◌++◌}
use mathlib.Core.Path.{◌∙◌, ◌≡◌, ap, refl, sym}
use lib.Dec.{eqb}
use lib.ListN.{drop, length}
use Rattle.integers.specs.Words.{Word, first_of, ident_of}
use Rattle.integers.specs.declared.ident.Found.{Found}
use Rattle.text.proofs.Choices.{and_true, bool_cases, either}
use Rattle.text.proofs.Stops.{Stopped, Reach, on}
use Rattle.text.proofs.ClassLaws.{all_of}
use Rattle.text.proofs.WordLaws.{starts_short, starts_stopped}
use Rattle.text.proofs.AheadLaws.{ahead_stopped}
use Rattle.text.specs.Ahead.{next_ahead}
use Rattle.text.specs.Classes.{ascii_next}
use lib.Seq.{drop-append-le}
use Rattle.text.specs.Words.{starts_with}

-- every word is of the class
abbrev pub fit : (ℕ → Bool) → List Word → Bool
fit p [] = true
fit p (w ∷ ws) = all_of p w.letters && fit p ws

-- ---- words of a class that c is not of, an ASCII byte with which no name goes on

module _ (p : ℕ → Bool) (c : ℕ) (low : c < 0x80) (next : ascii_next c ≡ false) (out : p c ≡ false) where
  module _ (word : List ℕ) (h : all_of p word ≡ true) where
    ahead_same : (u v v' : List ℕ) → length word ≤ length u → next_ahead (drop (length word) (u ++ c ∷ v)) ≡ next_ahead (drop (length word) (u ++ c ∷ v'))
    ahead_same u v v' l =
        ap next_ahead (drop-append-le (length word) u (c ∷ v) l) ∙ (ahead_stopped c low next).same (drop (length word) u) v v' ∙ sym (ap next_ahead (drop-append-le (length word) u (c ∷ v') l))

    ident_same : (u v v' : List ℕ) → ident_of word (u ++ c ∷ v) ≡ ident_of word (u ++ c ∷ v')
    unfolding ident_of
    ident_same u v v' = go (starts_with word (u ++ c ∷ v)) refl
      where
        go : (b : Bool) → starts_with word (u ++ c ∷ v) ≡ b
            → cond (starts_with word (u ++ c ∷ v)) (cond (next_ahead (drop (length word) (u ++ c ∷ v))) 0 (length word)) 0
            ≡ cond (starts_with word (u ++ c ∷ v')) (cond (next_ahead (drop (length word) (u ++ c ∷ v'))) 0 (length word)) 0
        go true e = rw (e, sym ((starts_stopped p c out word h).same u v v') ∙ e) (ap (λ (a : Bool). cond a 0 (length word)) (ahead_same u v v' (starts_short p c out word h u v e)))
        go false e = rw (e, sym ((starts_stopped p c out word h).same u v v') ∙ e)

    ident_short : (u v : List ℕ) → ident_of word (u ++ c ∷ v) ≤ length u
    unfolding ident_of
    ident_short u v =
        either (bool_cases (starts_with word (u ++ c ∷ v)))
        (λ a. let k = starts_short p c out word h u v a in
        either (bool_cases (next_ahead (drop (length word) (u ++ c ∷ v)))) (λ b. rw (a, b) (omega arith)) (λ b. rw (a, b) (omega arith)))
        (λ a. rw a (omega arith))

  -- ---- tables of words

  first_same : (ws : List Word) → fit p ws ≡ true → (u v v' : List ℕ) → first_of ws (u ++ c ∷ v) ≡ first_of ws (u ++ c ∷ v')
  unfolding first_of
  first_same [] h u v v' = refl
  first_same (w ∷ ws) h u v v' =
      let k = and_true (all_of p w.letters) (fit p ws) h in
      rw (ident_same w.letters k.0 u v v', first_same ws k.1 u v v')

  first_short : (ws : List Word) → fit p ws ≡ true → (u v : List ℕ) → (first_of ws (u ++ c ∷ v)).end ≤ length u
  unfolding first_of
  first_short [] h u v = omega arith
  first_short (w ∷ ws) h u v =
      let k = and_true (all_of p w.letters) (fit p ws) h in
      let l = first_short ws k.1 u v in
      let m = ident_short w.letters k.0 u v in
      either (bool_cases (eqb (ident_of w.letters (u ++ c ∷ v)) 0)) (λ a. rw a l) (λ a. rw a m)

  pub first_stopped : (ws : List Word) → fit p ws ≡ true → Stopped c (first_of ws)
  first_stopped ws h = record { same = first_same ws h }

  pub first_reach : (ws : List Word) → fit p ws ≡ true → Reach c (λ t. (first_of ws t).end)
  first_reach ws h = record { stopped = on (λ (f : Found). f.end) (first_stopped ws h); short = first_short ws h }

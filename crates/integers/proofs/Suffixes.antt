-- Laws of the suffix loop. Assumes nothing.
use Prim.Native.Nat.{ℕ, zero, suc, ◌+◌, ◌-◌, ◌≤◌, ◌<◌}
use native.Mathlib.Omega.{arith}
use mathlib.Core.Bool.{false, true}
use mathlib.Core.List.{List, [], ◌∷◌}
use mathlib.Core.Path.{◌≡◌, ◌∙◌, ap, refl, sym}
use lib.Dec.{eqb}
use lib.ListN.{get_or, length}
use borrow.Author.Tests.{eqb-false}
use Rattle.integers.proofs.Words.{first_more, first_here, first_le, ident_here, ident_none, other_first}
use Rattle.integers.proofs.WidthRows.{some_letters}
use Rattle.integers.specs.Width.{suffix_word, suffix, suffix_of, suffix_first, width_at}
use Rattle.integers.specs.Words.{Word, ident_at, ident_of, nothing_found, first_of}
use Rattle.integers.specs.declared.ident.Found.{Found}
use Rattle.text.proofs.Choices.{or_left, or_right}

-- so many suffixes, from a width's number on
abbrev pub from : (left code : ℕ) → List Word
from zero code = []
from (suc left) code = suffix code ∷ from left (code + 1)

pub from_all : (t : List ℕ) → suffix_of t ≡ first_of (from 8 1) t
unfolding suffix_of
from_all t = refl

pub from_more : (k : ℕ) (t : List ℕ) → k ≤ 8 → ident_at (suffix_word k) t ≡ false → first_of (from (9 - k) k) t ≡ first_of (from (9 - (k + 1)) (k + 1)) t
from_more k t h e =
    let q : 9 - k ≡ suc (9 - (k + 1)) = omega arith in
    rw q (first_more (suffix k) (from (9 - (k + 1)) (k + 1)) t (ident_none (suffix_word k) t e))

pub from_here : (k : ℕ) (t : List ℕ) → k ≤ 8 → ident_at (suffix_word k) t ≡ true → first_of (from (9 - k) k) t ≡ record { code = k; end = length (suffix_word k) }
from_here k t h e =
    let q : 9 - k ≡ suc (9 - (k + 1)) = omega arith in
    let h = ident_here (suffix_word k) t e in
    let found : ℕ → Found = λ n. record { code = k; end = n } in
    rw q (first_here (suffix k) (from (9 - (k + 1)) (k + 1)) t (λ z. some_letters k (sym h ∙ z)) ∙ ap found h)

pub from_none : (k : ℕ) (t : List ℕ) → 8 < k → first_of (from (9 - k) k) t ≡ nothing_found
unfolding first_of
from_none k t h =
    let q : 9 - k ≡ 0 = omega arith in
    rw q

-- no suffix stands where no i and no u does
module _ (t : List ℕ) (out : suffix_first (get_or t 0 0) ≡ false) where
  no_i : (ws : List ℕ) → ident_of (0x69 ∷ ws) t ≡ 0
  no_i ws = other_first 0x69 ws t (eqb-false _ _ (or_left (eqb (get_or t 0 0) 0x69) (eqb (get_or t 0 0) 0x75) out))

  no_u : (ws : List ℕ) → ident_of (0x75 ∷ ws) t ≡ 0
  no_u ws = other_first 0x75 ws t (eqb-false _ _ (or_right (eqb (get_or t 0 0) 0x69) (eqb (get_or t 0 0) 0x75) out))

  pub no_suffix : suffix_of t ≡ nothing_found
  unfolding suffix_of suffix_word first_of width_at
  no_suffix = simp (no_i, no_u)

pub suffix_le : (t : List ℕ) → (suffix_of t).end ≤ length t
unfolding suffix_of
suffix_le t = first_le _ t

-- What a shape says of the first bytes. Assumes nothing.
use Prim.Native.Nat.{ℕ, ◌<◌, ◌≤◌}
use native.Mathlib.Omega.{arith}
use mathlib.Core.Bool.{true, false}
use mathlib.Core.List.{List, [], ◌++◌, ◌∷◌}
use mathlib.Core.Path.{◌≡◌, refl}
use lib.Dec.{eqb, ltb}
use lib.ListN.{get_or, length}
use borrow.Author.Tests.{ltb-true}
use Rattle.text.proofs.Choices.{cond_cases}
use Rattle.names.proofs.NameStops.{name_stop, not_byte}
use Rattle.text.specs.Classes.{digit, ascii_next, ascii_raw, letter, within}
use Rattle.tokens.specs.Shapes.{mark_kind, behind_b, behind_r, shape_of, starts_number}
use Rattle.tokens.specs.declared.shape.Shape.{Shape}
use Rattle.tokens.specs.declared.shape.Shape.TheVariants.{Mark, Attribute, Str, Char, Byte, ByteStr, Number, Word}
use Rattle.tokens.specs.Token.{by_shape, token_of}

-- ---- the kinds of marks

pub mark_le : (a : ℕ) → mark_kind a ≤ 8
unfolding mark_kind
mark_le a =
    cond_cases (λ (n : ℕ). n ≤ 8) (eqb a 0x28) 1 _ (λ e. omega arith) λ e.
    cond_cases (λ (n : ℕ). n ≤ 8) (eqb a 0x29) 2 _ (λ e. omega arith) λ e.
    cond_cases (λ (n : ℕ). n ≤ 8) (eqb a 0x5b) 3 _ (λ e. omega arith) λ e.
    cond_cases (λ (n : ℕ). n ≤ 8) (eqb a 0x5d) 4 _ (λ e. omega arith) λ e.
    cond_cases (λ (n : ℕ). n ≤ 8) (eqb a 0x7b) 5 _ (λ e. omega arith) λ e.
    cond_cases (λ (n : ℕ). n ≤ 8) (eqb a 0x7d) 6 _ (λ e. omega arith) λ e.
    cond_cases (λ (n : ℕ). n ≤ 8) (eqb a 0x2c) 7 _ (λ e. omega arith) λ e.
    cond_cases (λ (n : ℕ). n ≤ 8) (eqb a 0x3a) 8 0 (λ e. omega arith) λ e. omega arith

-- a mark has a kind from 1 to 8
abbrev pub Marked : Shape → Type 0
Marked (Mark kind) = (0 < kind) × (kind ≤ 8)
Marked Attribute = Unit {0}
Marked Str = Unit {0}
Marked Char = Unit {0}
Marked Byte = Unit {0}
Marked ByteStr = Unit {0}
Marked Number = Unit {0}
Marked Word = Unit {0}

b_marked : (b c : ℕ) → Marked (behind_b b c)
unfolding behind_b
b_marked b c =
    cond_cases Marked (eqb b 0x27) _ _ (λ e. tt) λ e.
    cond_cases Marked (eqb b 0x22) _ _ (λ e. tt) λ e.
    cond_cases Marked (eqb b 0x72) _ _
    (λ e. cond_cases Marked (eqb c 0x22) _ _ (λ e. tt) λ e. cond_cases Marked (eqb c 0x23) _ _ (λ e. tt) λ e. tt) λ e. tt

r_marked : (b c : ℕ) → Marked (behind_r b c)
unfolding behind_r
r_marked b c =
    cond_cases Marked (eqb b 0x22) _ _ (λ e. tt) λ e.
    cond_cases Marked (eqb b 0x23) _ _
    (λ e. cond_cases Marked (eqb c 0x22) _ _ (λ e. tt) λ e. cond_cases Marked (eqb c 0x23) _ _ (λ e. tt) λ e. tt) λ e. tt

pub shape_marked : (a b c : ℕ) → Marked (shape_of a b c)
unfolding shape_of
shape_marked a b c =
    cond_cases Marked (ltb 0 (mark_kind a)) _ _ (λ e. (ltb-true 0 (mark_kind a) e, mark_le a)) λ e.
    cond_cases Marked (eqb a 0x23) _ _ (λ e. tt) λ e.
    cond_cases Marked (eqb a 0x22) _ _ (λ e. tt) λ e.
    cond_cases Marked (eqb a 0x27) _ _ (λ e. tt) λ e.
    cond_cases Marked (eqb a 0x62) _ _ (λ e. b_marked b c) λ e.
    cond_cases Marked (eqb a 0x72) _ _ (λ e. r_marked b c) λ e.
    cond_cases Marked (starts_number a) _ _ (λ e. tt) λ e. tt

-- ---- the shape at the front of a part

abbrev pub shape_at : List ℕ → Shape
shape_at s = shape_of (get_or s 0 0) (get_or s 1 0) (get_or s 2 0)

-- the token by the shape that the code found
pub token_by : (s : List ℕ) (a b c : ℕ) (k k' : Shape) → a ≡ get_or s 0 0 → b ≡ get_or s 1 0 → c ≡ get_or s 2 0 → k ≡ shape_of a b c → k ≡ k' → by_shape k' s ≡ token_of s
unfolding token_of
token_by s a b c k k' ea eb ec e f = rw (← ea, ← eb, ← ec, ← e, f)

-- ---- behind a byte that stops names nothing changes the shape

module _ (c : ℕ) (is : name_stop c ≡ true) where
  no_tick : eqb c 0x27 ≡ false
  unfolding name_stop ascii_raw ascii_next letter digit within
  no_tick = not_byte c is 0x27 refl

  no_quote : eqb c 0x22 ≡ false
  unfolding name_stop ascii_raw ascii_next letter digit within
  no_quote = not_byte c is 0x22 refl

  no_hash : eqb c 0x23 ≡ false
  unfolding name_stop ascii_raw ascii_next letter digit within
  no_hash = not_byte c is 0x23 refl

  no_r : eqb c 0x72 ≡ false
  unfolding name_stop ascii_raw ascii_next letter digit within
  no_r = not_byte c is 0x72 refl

  b_same : (x y : ℕ) → behind_b c x ≡ behind_b c y
  unfolding behind_b
  b_same x y = rw (no_tick, no_quote, no_r)

  r_same : (x y : ℕ) → behind_r c x ≡ behind_r c y
  unfolding behind_r
  r_same x y = rw (no_quote, no_hash)

  first_same : (a x y : ℕ) → shape_of a c x ≡ shape_of a c y
  unfolding shape_of
  first_same a x y = rw (b_same x y, r_same x y)

  pub shape_same : (u v v' : List ℕ) → 0 < length u → shape_at (u ++ c ∷ v) ≡ shape_at (u ++ c ∷ v')
  shape_same [] v v' h = absurd (omega arith)
  shape_same (a ∷ []) v v' h = first_same a (get_or v 0 0) (get_or v' 0 0)
  shape_same (a ∷ b ∷ []) v v' h = refl
  shape_same (a ∷ b ∷ d ∷ u) v v' h = refl

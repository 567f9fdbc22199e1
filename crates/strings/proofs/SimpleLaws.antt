-- A backslash and a letter that stands for one byte: what the loop over a string's pieces takes by itself. Assumes nothing.
use Prim.Native.Nat.{ℕ, ◌+◌, ◌<◌, ◌≤◌}
use native.Mathlib.Omega.{arith}
use mathlib.Core.Bool.{Bool, true, false, cond}
use mathlib.Core.List.{List, [], ◌∷◌}
use mathlib.Core.Path.{◌≡◌, ap, refl, sym, ◌∙◌}
use lib.Dec.{eqb, ltb}
use lib.ListN.{get_or-eq_default, drop, get_or, length}
use lib.Seq.{get_or-drop}
use borrow.Author.Tests.{eq-eqb, eqb-true, ne_eqb}
use Rattle.text.proofs.Choices.{and_false, and_true}
use Rattle.text.proofs.Lists.{head_at}
use Rattle.escapes.specs.Escapes.{escape_of, simple_of}
use Rattle.escapes.specs.declared.answers.Mode.{Mode}
use Rattle.strings.specs.Pieces.{behind_backslash, line_end, piece_of, simple_front}
use Rattle.strings.specs.declared.pieces.Decoded.TheVariants.{Ascii}
use Rattle.strings.specs.declared.pieces.Piece.TheVariants.{Backslash}

-- ---- which letters

last_low : (t : Bool) → t ≡ ltb (cond t 0x00 256) 256
last_low true = refl
last_low false = refl

last_high : (t : Bool) → t ≡ ltb (cond t 0x0D 256) 256
last_high true = refl
last_high false = refl

pub low_letter : (b : ℕ) → b < 0x40 → (b ≡ 0x22 → ⊥) → (b ≡ 0x27 → ⊥) → eqb b 0x30 ≡ ltb (simple_of b) 256
unfolding simple_of
low_letter b h n1 n2 =
    rw (ne_eqb b 0x27 n2, ne_eqb b 0x22 n1, ne_eqb b 0x5C (λ e. omega arith), ne_eqb b 0x6E (λ e. omega arith), ne_eqb b 0x72 (λ e. omega arith), ne_eqb b 0x74 (λ e. omega arith))
    (last_low (eqb b 0x30))

pub high_letter : (b : ℕ) → 0x40 ≤ b → (b ≡ 0x6E → ⊥) → (b ≡ 0x5C → ⊥) → (b ≡ 0x74 → ⊥) → eqb b 0x72 ≡ ltb (simple_of b) 256
unfolding simple_of
high_letter b h n1 n2 n3 =
    rw (ne_eqb b 0x27 (λ e. omega arith), ne_eqb b 0x22 (λ e. omega arith), ne_eqb b 0x5C n2, ne_eqb b 0x6E n1, ne_eqb b 0x74 n3, ne_eqb b 0x30 (λ e. omega arith))
    (last_high (eqb b 0x72))

-- no line ends with one
not_simple : (b x : ℕ) → ltb (simple_of b) 256 ≡ true → ltb (simple_of x) 256 ≡ false → b ≡ x → ⊥
not_simple b x is isnt e =
    let z : ◌≡◌ {A = Bool} true false = sym is ∙ ap (λ (n : ℕ). ltb (simple_of n) 256) e ∙ isnt in
    let y : ◌≡◌ {A = ℕ} 0 1 = cc in
    absurd (omega arith)

-- ---- at a place, as the code asks

module _ (s : List ℕ) (at : ℕ) where
  pub no_backslash : (get_or s at 0 ≡ 0x5C → ⊥) → false ≡ simple_front (drop at s)
  unfolding simple_front
  no_backslash other = sym (rw (head_at s at, ne_eqb (get_or s at 0) 0x5C other))

  pub nothing_behind : length s ≤ at + 1 → false ≡ simple_front (drop at s)
  unfolding simple_front simple_of
  nothing_behind h = sym (rw (get_or-drop at s 1 0, get_or-eq_default s 0 {n = at + 1} h) (and_false (eqb (get_or (drop at s) 0 0) 0x5C)))

  pub by_letter : get_or s at 0 ≡ 0x5C → ltb (simple_of (get_or s (at + 1) 0)) 256 ≡ simple_front (drop at s)
  unfolding simple_front
  by_letter e = sym (rw (head_at s at, eq-eqb (get_or s at 0) 0x5C e, get_or-drop at s 1 0))

-- ---- the piece

pub simple_piece : (m : Mode) (t : List ℕ) → simple_front t ≡ true → Backslash 2 (Ascii (simple_of (get_or t 1 0))) ≡ piece_of m t
unfolding simple_front piece_of behind_backslash line_end escape_of simple_of
simple_piece m [] is = let y : ◌≡◌ {A = ℕ} 0 1 = cc in absurd (omega arith)
simple_piece m (a ∷ []) is =
    let z : ◌≡◌ {A = Bool} false true = sym (and_false (eqb a 0x5C)) ∙ is in
    let y : ◌≡◌ {A = ℕ} 0 1 = cc in
    absurd (omega arith)
simple_piece m (a ∷ b ∷ t) is =
    let p = and_true (eqb a 0x5C) (ltb (simple_of b) 256) is in
    rw (eqb-true a 0x5C p.0, ne_eqb b 0x0A (not_simple b 0x0A p.1 refl), ne_eqb b 0x0D (not_simple b 0x0D p.1 refl), p.1)

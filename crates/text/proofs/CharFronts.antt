-- Characters in front of a byte that stops them: what a list of bytes, UTF-8 or not, begins with does not depend on what stands behind an ASCII byte.
-- Assumes nothing.
use Prim.Native.Nat.{◌<◌, ℕ, ◌≤◌}
use native.Mathlib.Nat.{not-suc-le-zero}
use native.Mathlib.Omega.{arith}
use mathlib.Core.Bool.{cond, false}
use mathlib.Core.List.{List, [], ◌++◌, ◌∷◌}
use mathlib.Core.Path.{◌≡◌, refl, ◌∙◌, sym}
use lib.Dec.{eqb, leb}
use lib.ListN.{get_or, length}
use borrow.Author.Tests.{lt-ltb, lt-leb}
use Rattle.text.proofs.Choices.{and_false, cond_same}
use Rattle.text.proofs.ClassLaws.{below, above}
use Rattle.text.proofs.Utf8Laws.{Second, View, width_ascii, width_view}
use Rattle.text.proofs.Utf8Laws.Second.{after_E0, after_ED, after_F0, after_F4, after_other}
use Rattle.text.proofs.Utf8Laws.View.{v0, v1, v2, v3, v4}
use Rattle.text.specs.Classes.{within}
use Rattle.text.specs.Utf8.{behind_four, behind_three, code_of, code_of4, second_byte, tail_byte, width_of, Tail, char_len}

-- ---- the code point of an ASCII byte

pub code_ascii : (s : List ℕ) → get_or s 0 0 < 0x80 → code_of s ≡ get_or s 0 0
unfolding code_of code_of4
code_ascii s h = simp (lt-ltb (get_or s 0 0) 0x80 h)

-- ---- an ASCII byte is no UTF8-tail

module _ (c : ℕ) (h : c < 0x80) where
  tail_not : tail_byte c ≡ false
  tail_not = below 0x80 0xBF c h

  second_not : (a : ℕ) → second_byte a c ≡ false
  unfolding second_byte
  second_not a =
      rw (below 0xA0 0xBF c (omega arith), below 0x80 0x9F c (omega arith), below 0x90 0xBF c (omega arith), below 0x80 0x8F c (omega arith), tail_not)
      (rw (cond_same (eqb a 0xF4) false, cond_same (eqb a 0xF0) false, cond_same (eqb a 0xED) false) (cond_same (eqb a 0xE0) false))

  three_not : (a b : ℕ) → behind_three a b c ≡ false
  unfolding behind_three
  three_not a b = rw tail_not (and_false (second_byte a b))

  -- the width of a character with that byte second, third or fourth
  width_second : (a d e : ℕ) → width_of a c d e ≡ cond (leb a 0x7F) 1 0
  unfolding width_of behind_four behind_three
  width_second a d e =
      rw (tail_not, second_not a)
      (rw (cond_same {A = ℕ} (within 0xF0 0xF4 a) 0, cond_same {A = ℕ} (within 0xE0 0xEF a) 0, cond_same {A = ℕ} (within 0xC2 0xDF a) 0) refl)

  width_third : (a b d : ℕ) → width_of a b c d ≡ cond (leb a 0x7F) 1 (cond (within 0xC2 0xDF a) (cond (tail_byte b) 2 0) 0)
  unfolding width_of behind_four
  width_third a b d =
      rw (three_not a b)
      (rw (cond_same {A = ℕ} (within 0xF0 0xF4 a) 0, cond_same {A = ℕ} (within 0xE0 0xEF a) 0) refl)

  -- ---- the width of the character at the front
  pub len_same : (u v v' : List ℕ) → char_len (u ++ c ∷ v) ≡ char_len (u ++ c ∷ v')
  unfolding char_len
  len_same [] v v' = width_ascii c _ _ _ (omega arith) ∙ sym (width_ascii c _ _ _ (omega arith))
  len_same (x ∷ []) v v' = width_second x _ _ ∙ sym (width_second x _ _)
  len_same (x ∷ y ∷ []) v v' = width_third x y _ ∙ sym (width_third x y _)
  len_same (x ∷ y ∷ z ∷ []) v v' = refl
  len_same (x ∷ y ∷ z ∷ w ∷ u) v v' = refl

  not_tail : Tail c → {X : Type 0} → X
  not_tail t = absurd (omega (arith, t.0))

  not_second : (a : ℕ) → Second a c → {X : Type 0} → X
  not_second a (after_E0 e b) = absurd (omega (arith, b.0))
  not_second a (after_ED e b) = absurd (omega (arith, b.0))
  not_second a (after_F0 e b) = absurd (omega (arith, b.0))
  not_second a (after_F4 e b) = absurd (omega (arith, b.0))
  not_second a (after_other n1 n2 n3 n4 b) = absurd (omega (arith, b.0))

  one : (a d e : ℕ) (n : ℕ) → View a c d e n → n ≤ 1
  one a d e n v0 = omega arith
  one a d e n (v1 l) = omega arith
  one a d e n (v2 l t) = not_tail t
  one a d e n (v3 l s t) = not_second a s
  one a d e n (v4 l s t r) = not_second a s

  two : (a b e : ℕ) (n : ℕ) → View a b c e n → n ≤ 2
  two a b e n v0 = omega arith
  two a b e n (v1 l) = omega arith
  two a b e n (v2 l t) = omega arith
  two a b e n (v3 l s t) = not_tail t
  two a b e n (v4 l s t r) = not_tail t

  three : (a b d : ℕ) (n : ℕ) → View a b d c n → n ≤ 3
  three a b d n v0 = omega arith
  three a b d n (v1 l) = omega arith
  three a b d n (v2 l t) = omega arith
  three a b d n (v3 l s t) = omega arith
  three a b d n (v4 l s t r) = not_tail r

  four : (a b d e : ℕ) (n : ℕ) → View a b d e n → n ≤ 4
  four a b d e n v0 = omega arith
  four a b d e n (v1 l) = omega arith
  four a b d e n (v2 l t) = omega arith
  four a b d e n (v3 l s t) = omega arith
  four a b d e n (v4 l s t r) = omega arith

  pub len_short : (u v : List ℕ) → 0 < length u → char_len (u ++ c ∷ v) ≤ length u
  unfolding char_len
  len_short [] v h = absurd (not-suc-le-zero h)
  len_short (x ∷ []) v h = one x _ _ _ (width_view x c _ _)
  len_short (x ∷ y ∷ []) v h = two x y _ _ (width_view x y c _)
  len_short (x ∷ y ∷ z ∷ []) v h = three x y z _ (width_view x y z c)
  len_short (x ∷ y ∷ z ∷ w ∷ u) v h = let l = four x y z w _ (width_view x y z w) in omega arith

  -- none stands there behind a first byte of two, or of three or four
  pub no_second : (x : ℕ) (v : List ℕ) → 0x80 ≤ x → char_len (x ∷ c ∷ v) ≡ 0
  unfolding char_len
  no_second x v l = rw (width_second x (get_or v 0 0) (get_or v 1 0), lt-leb x 0x7F (omega arith))

  pub no_third : (x y : ℕ) (v : List ℕ) → 0xE0 ≤ x → char_len (x ∷ y ∷ c ∷ v) ≡ 0
  unfolding char_len
  no_third x y v l = rw (width_third x y (get_or v 0 0), lt-leb x 0x7F (omega arith), above 0xC2 0xDF x (omega arith))

-- the code point of a character of one or two bytes does not see a third
pub code_first : (x y a b a' b' : ℕ) → x < 0xE0 → code_of4 x y a b ≡ code_of4 x y a' b'
unfolding code_of4
code_first x y a b a' b' l = simp (lt-ltb x 0xE0 l)

-- Two hex digits, and a `\x` in front of them, as the reader takes them (`two_digits`, `next_byte`). Assumes nothing.
use Prim.Native.Nat.{ℕ, ◌+◌, ◌*◌, ◌<◌}
use native.Mathlib.Omega.{arith}
use mathlib.Core.Bool.{false, true, true≢false, ◌&&◌}
use mathlib.Core.List.{List, [], ◌∷◌, ◌++◌}
use mathlib.Core.Path.{◌≡◌, ◌∙◌, ap, refl, subst, sym}
use lib.Dec.{eqb}
use lib.ListN.{length}
use borrow.Author.Tests.{eq-eqb, eqb-false, eqb-true, ne_eqb}
use Rattle.escapes.specs.Escapes.{hex_of, next_byte, second_digit, two_digits}
use Rattle.escapes.specs.declared.answers.EscapeAnswer.{EscapeAnswer}
use Rattle.escapes.specs.declared.answers.EscapeAnswer.TheVariants.{Ascii, Refused}
use Rattle.escaped.specs.Escape.{Hex}
use Rattle.escaped.specs.Escape.Hex.{none, more}
use Rattle.escaped.specs.Wrong.{NotAt}
use Rattle.hexes.proofs.HexLaws.{hex_le}
use Rattle.text.proofs.Choices.{and_false, and_true, cond_cases}
use Rattle.text.specs.Refusals.{eof, invalid_escape}
use Rattle.text.specs.Utf8.{char_len}
use Rattle.text.specs.declared.reason.EscapeReason.TheVariants.{DigitNotHex, NotByteEscaped}
use Rattle.text.specs.declared.refusal.Refusal.{Refusal}

-- a byte with a value is a digit
pub is_digit : (b : ℕ) → eqb (hex_of b) 16 ≡ false → hex_of b < 16
is_digit b e = let n = eqb-false (hex_of b) 16 e in omega (arith, hex_le b)

-- and a digit has one
pub digit_is : (b : ℕ) → hex_of b < 16 → eqb (hex_of b) 16 ≡ false
digit_is b h = ne_eqb (hex_of b) 16 (λ q. omega arith)

-- the same byte, read up to the same place
same_byte : (b c p q : ℕ) → b ≡ c → p ≡ q → Ascii b p ≡ Ascii c q
same_byte b c p q e f = cc

-- the same refusal, at the same place
pub same_place : (f : ℕ → Refusal) (p q : ℕ) → p ≡ q → Refused (f p) ≡ Refused (f q)
same_place f p q e = ap (λ (k : ℕ). Refused (f k)) e

-- ---- two digits

-- the two digits of a byte are read as that byte
pub two_reads : (at h l b : ℕ) (t : List ℕ) → Hex 0 (h ∷ l ∷ []) b → two_digits at (h ∷ l ∷ t) ≡ Ascii b (at + 2)
unfolding two_digits second_digit
two_reads at h l b t (more x (more y none)) = rw (digit_is h x, digit_is l y) (same_byte (hex_of h * 16 + hex_of l) _ (at + 1 + 1) (at + 2) (omega arith) (omega arith))

-- fewer than two digits: the text ends, or a byte stands there that is none
pub data Lacks (at : ℕ) : List ℕ → Refusal → Type 0 where
  ended : {v : ℕ} {t : List ℕ} (p : ℕ) → Hex 0 t v → length t < 2 → p ≡ at + length t → Lacks at t (eof p)
  other : {v : ℕ} (p : ℕ) (ds : List ℕ) (b : ℕ) (u : List ℕ) → Hex 0 ds v → length ds < 2 → hex_of b ≡ 16 → p ≡ at + length ds + char_len (b ∷ u)
      → Lacks at (ds ++ b ∷ u) (invalid_escape DigitNotHex p)

-- what the reader of two digits may answer
pub data Pair (at : ℕ) (t : List ℕ) : EscapeAnswer → Type 0 where
  read : {h l b : ℕ} {u : List ℕ} → t ≡ h ∷ l ∷ u → Hex 0 (h ∷ l ∷ []) b → Pair at t (Ascii b (at + 2))
  lacks : {r : Refusal} → Lacks at t r → Pair at t (Refused r)

-- a first byte that is no digit
no_first : (at h : ℕ) (t : List ℕ) → eqb (hex_of h) 16 ≡ true → Pair at (h ∷ t) (Refused (invalid_escape DigitNotHex (at + char_len (h ∷ t))))
no_first at h t e = lacks (other (at + char_len (h ∷ t)) [] h t none (omega arith) (eqb-true (hex_of h) 16 e) (omega arith))

-- behind a first digit
second_view : (at h l : ℕ) (t : List ℕ) → hex_of h < 16 → Pair at (h ∷ l ∷ t) (second_digit (hex_of h) (at + 1) (l ∷ t))
unfolding second_digit
second_view at h l t x =
    cond_cases (Pair at (h ∷ l ∷ t)) (eqb (hex_of l) 16) _ _
    (λ e. lacks (other (at + 1 + char_len (l ∷ t)) (h ∷ []) l t (more x none) (omega arith) (eqb-true (hex_of l) 16 e) (omega arith)))
    (λ e. subst (Pair at (h ∷ l ∷ t)) (same_byte ((0 * 16 + hex_of h) * 16 + hex_of l) (hex_of h * 16 + hex_of l) (at + 2) (at + 1 + 1) (omega arith) (omega arith))
    (read refl (more x (more (is_digit l e) none))))

-- what it answers is one of these
pub two_view : (at : ℕ) (t : List ℕ) → Pair at t (two_digits at t)
unfolding two_digits second_digit
two_view at [] = lacks (ended at none (omega arith) (omega arith))
two_view at (h ∷ []) =
    cond_cases (Pair at (h ∷ [])) (eqb (hex_of h) 16) _ _ (no_first at h []) (λ e. lacks (ended (at + 1) (more (is_digit h e) none) (omega arith) (omega arith)))
two_view at (h ∷ l ∷ t) = cond_cases (Pair at (h ∷ l ∷ t)) (eqb (hex_of h) 16) _ _ (no_first at h (l ∷ t)) (λ e. second_view at h l t (is_digit h e))

-- where fewer stand there, that is the refusal
pub two_lacks : {at : ℕ} {t : List ℕ} {r : Refusal} → Lacks at t r → two_digits at t ≡ Refused r
unfolding two_digits second_digit
two_lacks {at} (ended p none l e) = same_place eof at p (omega arith)
two_lacks {at} (ended p (more {d} x none) l e) = rw (digit_is d x) (same_place eof (at + 1) p (omega arith))
two_lacks (ended p (more x (more y z)) l e) = absurd (omega arith)
two_lacks {at} (other p ds b u none l n e) = rw (eq-eqb (hex_of b) 16 n) (same_place (invalid_escape DigitNotHex) (at + char_len (b ∷ u)) p (omega arith))
two_lacks {at} (other p ds b u (more {d} x none) l n e) =
    rw (digit_is d x, eq-eqb (hex_of b) 16 n) (same_place (invalid_escape DigitNotHex) (at + 1 + char_len (b ∷ u)) p (omega arith))
two_lacks (other p ds b u (more x (more y z)) l n e) = absurd (omega arith)

-- ---- `\x` and two digits

-- the next byte of a run is read as that byte
pub next_reads : (at h l b : ℕ) (t : List ℕ) → Hex 0 (h ∷ l ∷ []) b → next_byte at (0x5C ∷ 0x78 ∷ h ∷ l ∷ t) ≡ Ascii b (at + 4)
unfolding next_byte
next_reads at h l b t x = two_reads (at + 2) h l b t x ∙ ap (Ascii b) (omega arith)

-- what the reader of a next byte may answer
pub data Next (at : ℕ) (t : List ℕ) : EscapeAnswer → Type 0 where
  read : {h l b : ℕ} {u : List ℕ} → t ≡ 0x5C ∷ 0x78 ∷ h ∷ l ∷ u → Hex 0 (h ∷ l ∷ []) b → Next at t (Ascii b (at + 4))
  lacks : {u : List ℕ} {r : Refusal} → t ≡ 0x5C ∷ 0x78 ∷ u → Lacks (at + 2) u r → Next at t (Refused r)
  other : NotAt (0x5C ∷ 0x78 ∷ []) t → Next at t (Refused (invalid_escape NotByteEscaped at))

-- two digits behind `\x`
behind_x : (at x y : ℕ) (t : List ℕ) (a : EscapeAnswer) → x ≡ 0x5C → y ≡ 0x78 → Pair (at + 2) t a → Next at (x ∷ y ∷ t) a
behind_x at x y t a e f (read {h} {l} {b} {u} q z) =
    let four : at + 4 ≡ at + 2 + 2 = omega arith in
    let all : x ∷ y ∷ t ≡ 0x5C ∷ 0x78 ∷ h ∷ l ∷ u = cc in
    subst (λ (p : ℕ). Next at (x ∷ y ∷ t) (Ascii b p)) four (read all z)
behind_x at x y t a e f (lacks k) = let all : x ∷ y ∷ t ≡ 0x5C ∷ 0x78 ∷ t = cc in lacks all k

-- fewer than two bytes are no `\x`
no_two : (t : List ℕ) → length t < 2 → NotAt (0x5C ∷ 0x78 ∷ []) t
no_two t h u e = omega (arith, ap length e)

-- nor are two others
no_x : (x y : ℕ) (t : List ℕ) → eqb x 0x5C && eqb y 0x78 ≡ false → NotAt (0x5C ∷ 0x78 ∷ []) (x ∷ y ∷ t)
no_x x y t n u e =
    let f : x ≡ 0x5C = cc in
    let g : y ≡ 0x78 = cc in
    true≢false (sym (rw (eq-eqb x 0x5C f, eq-eqb y 0x78 g)) ∙ n)

-- what it answers is one of these
pub next_view : (at : ℕ) (t : List ℕ) → Next at t (next_byte at t)
unfolding next_byte
next_view at [] = other (no_two [] (omega arith))
next_view at (x ∷ []) = rw (and_false (eqb x 0x5C)) (other (no_two (x ∷ []) (omega arith)))
next_view at (x ∷ y ∷ t) =
    cond_cases (Next at (x ∷ y ∷ t)) (eqb x 0x5C && eqb y 0x78) _ _
    (λ e. let both = and_true (eqb x 0x5C) (eqb y 0x78) e in
    behind_x at x y t (two_digits (at + 2) t) (eqb-true x 0x5C both.0) (eqb-true y 0x78 both.1) (two_view (at + 2) t))
    (λ e. other (no_x x y t e))

-- where none stands there, that is the refusal
pub next_other : (at : ℕ) (t : List ℕ) → NotAt (0x5C ∷ 0x78 ∷ []) t → next_byte at t ≡ Refused (invalid_escape NotByteEscaped at)
next_other at t n = go (next_byte at t) refl (next_view at t)
  where
    go : (a : EscapeAnswer) → next_byte at t ≡ a → Next at t a → next_byte at t ≡ Refused (invalid_escape NotByteEscaped at)
    go a q (read e x) = absurd (n _ e)
    go a q (lacks e k) = absurd (n _ e)
    go a q (other m) = q

-- A character is a byte that is no tail byte, and tail bytes behind it: a text is cut between two characters exactly in front of a byte that is none.
-- Assumes nothing.
use Prim.Native.Nat.{ℕ, zero, suc, ◌+◌, ◌≤◌}
use native.Mathlib.Omega.{arith}
use mathlib.Core.Bool.{Bool, true, false}
use mathlib.Core.List.{List, [], ◌∷◌, ◌++◌}
use mathlib.Core.Logic.{◌⊎◌, inl, inr}
use mathlib.Core.Path.{◌≡◌, ◌∙◌, ap, refl, sym}
use lib.ListN.{length, get_or, take, drop, length-append}
use lib.Seq.{drop-append-add, get_or-append-add, take-append-add}
use Rattle.text.proofs.Choices.{either}
use Rattle.text.proofs.ClassLaws.{above, below, in_within}
use Rattle.text.specs.Utf8.{Char, Tail, Text, tail_byte}
use Rattle.text.specs.Utf8.Char.{utf8_1, utf8_2, utf8_3a, utf8_3b, utf8_3c, utf8_3d, utf8_4a, utf8_4b, utf8_4c}
use Rattle.text.specs.Utf8.Text.{none, more}

-- ---- one character

-- tail bytes only
data Tails : List ℕ → Type 0 where
  no_tail : Tails []
  a_tail : {b : ℕ} {bs : List ℕ} → Tail b → Tails bs → Tails (b ∷ bs)

-- a byte that is no tail byte, and tail bytes behind it
data Shape : List ℕ → Type 0 where
  shaped : {a : ℕ} {bs : List ℕ} → tail_byte a ≡ false → Tails bs → Shape (a ∷ bs)

-- every character has that shape
shape : {l : List ℕ} → Char l → Shape l
shape (utf8_1 {a} h) = shaped (below 0x80 0xBF a (omega arith)) no_tail
shape (utf8_2 {a} {b} h k) = shaped (above 0x80 0xBF a (omega arith)) (a_tail k no_tail)
shape (utf8_3a {a} {b} {c} e h k) = shaped (above 0x80 0xBF a (omega arith)) (a_tail {b = b} (omega arith) (a_tail k no_tail))
shape (utf8_3b {a} {b} {c} i h k) = shaped (above 0x80 0xBF a (omega arith)) (a_tail h (a_tail k no_tail))
shape (utf8_3c {a} {b} {c} e h k) = shaped (above 0x80 0xBF a (omega arith)) (a_tail {b = b} (omega arith) (a_tail k no_tail))
shape (utf8_3d {a} {b} {c} i h k) = shaped (above 0x80 0xBF a (omega arith)) (a_tail h (a_tail k no_tail))
shape (utf8_4a {a} {b} {c} {d} e h k m) = shaped (above 0x80 0xBF a (omega arith)) (a_tail {b = b} (omega arith) (a_tail k (a_tail m no_tail)))
shape (utf8_4b {a} {b} {c} {d} i h k m) = shaped (above 0x80 0xBF a (omega arith)) (a_tail h (a_tail k (a_tail m no_tail)))
shape (utf8_4c {a} {b} {c} {d} e h k m) = shaped (above 0x80 0xBF a (omega arith)) (a_tail {b = b} (omega arith) (a_tail k (a_tail m no_tail)))

-- a tail byte is told as one
no_other : (b : ℕ) → Tail b → tail_byte b ≡ false → ⊥
no_other b h e = let q : ◌≡◌ {A = Bool} true false = sym (in_within 0x80 0xBF b h) ∙ e in let z : ◌≡◌ {A = ℕ} 0 1 = cc in absurd (omega arith)

-- the place of a byte that is none lies behind the tail bytes in front
past_tails : {bs : List ℕ} → Tails bs → (s : List ℕ) (p : ℕ) → tail_byte (get_or (bs ++ s) p 0) ≡ false → (q : ℕ) × (p ≡ length bs + q)
past_tails no_tail s p x = (p, omega arith)
past_tails (a_tail {b} {bs} h t) s zero x = absurd (no_other b h x)
past_tails (a_tail {b} {bs} h t) s (suc p) x = let r = past_tails t s p x in (r.0, omega (arith, r.1))

-- so it lies in front of a character, or behind it
past-char : {l : List ℕ} → Shape l → (s : List ℕ) (p : ℕ) → tail_byte (get_or (l ++ s) p 0) ≡ false → (p ≡ 0) ⊎ ((q : ℕ) × (p ≡ length l + q))
past-char (shaped {a} {bs} h t) s zero x = inl refl
past-char (shaped {a} {bs} h t) s (suc p) x = let r = past_tails t s p x in inr (r.0, omega (arith, r.1))

-- ---- whole texts

-- no text begins with a tail byte
pub first_byte : {s : List ℕ} → Text s → tail_byte (get_or s 0 0) ≡ false
first_byte none = below 0x80 0xBF 0 (omega arith)
first_byte (more {l} {s} ch t) = by (shape ch)
  where
    by : {l : List ℕ} → Shape l → tail_byte (get_or (l ++ s) 0 0) ≡ false
    by (shaped h t) = h

-- both sides of a place are texts
abbrev Cut : List ℕ → ℕ → Type 0
Cut s p = Text (take p s) × Text (drop p s)

-- a text is cut in front of a byte that is no tail byte, and at its end
pub cut : {s : List ℕ} → Text s → (p : ℕ) → p ≤ length s → tail_byte (get_or s p 0) ≡ false → Cut s p
cut none zero h x = (none, none)
cut none (suc p) h x = absurd (omega arith)
cut (more {l} {s} ch t) p h x = either (past-char (shape ch) s p x) (λ e. front e) (λ r. behind r.0 r.1 (λ h x. cut t r.0 h x))
  where
    front : p ≡ 0 → Cut (l ++ s) p
    front e = rw e (none, more ch t)

    behind : (q : ℕ) → p ≡ length l + q → (q ≤ length s → tail_byte (get_or s q 0) ≡ false → Cut s q) → Cut (l ++ s) p
    behind q e rest =
        let parts = rest (omega (arith, e, length-append l s)) (ap tail_byte (sym (get_or-append-add l s q 0) ∙ ap (λ (n : ℕ). get_or (l ++ s) n 0) (sym e)) ∙ x) in
        rw (e, take-append-add, drop-append-add) (more ch parts.0, parts.1)

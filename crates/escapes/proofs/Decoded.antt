-- What an escape decodes to: `decoded` says that it is one scalar value or one byte, below 256 in byte strings and byte literals, and of ASCII in strings
-- and chars. Assumes nothing.
use Prim.Native.Nat.{◌*◌, ◌+◌, ◌<◌, ◌≤◌, suc, zero, ℕ}
use native.Mathlib.Omega.{arith}
use mathlib.Core.Bool.{Bool, ◌&&◌, cond, false, true}
use mathlib.Core.List.{List, [], ◌++◌, ◌∷◌}
use mathlib.Core.Logic.{inl}
use mathlib.Core.Path.{◌∙◌, ◌≡◌, ap, refl, subst, sym}
use lib.Dec.{eqb, ltb}
use lib.Ieee.{low, top}
use lib.ListN.{drop, get_or}
use borrow.Author.Tests.{eqb-false, ltb-true}
use Rattle.hexes.proofs.HexLaws.{hex_le}
use Rattle.escapes.specs.Escapes.{close_of, digits_of, escape_of, hex_by, hex_escape, hex_of, more_bytes, next_byte, second_digit, simple_of, two_digits, unicode_escape, with_byte}
use Rattle.escapes.specs.declared.answers.EscapeAnswer.{EscapeAnswer}
use Rattle.escapes.specs.declared.answers.EscapeAnswer.TheVariants.{Ascii, Refused, Utf8}
use Rattle.escapes.specs.declared.answers.Mode.{Mode}
use Rattle.escapes.specs.declared.answers.Mode.TheVariants.{Bytes, Char, Str}
use Rattle.text.proofs.Choices.{cond_cases}
use Rattle.text.proofs.Utf8Agree.{Head, char_scalar, decode_encode, head_view, scalar_true}
use Rattle.text.proofs.Utf8Agree.Head.{a_char, no_char}
use Rattle.text.specs.Utf8.{Scalar, char_len, code_of, scalar}

-- a byte below `top`, or a scalar value
abbrev pub Decodes : ℕ → EscapeAnswer → Type 0
Decodes top (Ascii b n) = b < top
Decodes top (Utf8 c n) = Scalar c
Decodes top (Refused r) = Unit

-- the bytes of each mode
abbrev pub top_of : Mode → ℕ
top_of Str = 0x80
top_of Char = 0x80
top_of Bytes = 256

second_decodes : (h at : ℕ) (t : List ℕ) → h < 16 → Decodes 256 (second_digit h at t)
unfolding second_digit
second_decodes h at [] l = tt
second_decodes h at (b ∷ t) l =
    cond_cases (Decodes 256) (eqb (hex_of b) 16) _ _ (λ e. tt)
    (λ e. let n = eqb-false (hex_of b) 16 e in omega (arith, hex_le b))

two_decodes : (at : ℕ) (t : List ℕ) → Decodes 256 (two_digits at t)
unfolding two_digits
two_decodes at [] = tt
two_decodes at (b ∷ t) =
    cond_cases (Decodes 256) (eqb (hex_of b) 16) _ _ (λ e. tt)
    (λ e. let n = eqb-false (hex_of b) 16 e in second_decodes (hex_of b) (at + 1) t (omega (arith, hex_le b)))

close_decodes : (empty : Bool) (v at : ℕ) (t : List ℕ) → Decodes 0 (close_of empty v at t)
unfolding close_of
close_decodes empty v at [] = cond_cases (Decodes 0) empty _ _ (λ e. tt) (λ e. tt)
close_decodes empty v at (b ∷ t) =
    cond_cases (Decodes 0) empty _ _ (λ e. tt)
    (λ n. cond_cases (Decodes 0) (eqb b 0x7D) _ _
    (λ e. cond_cases (Decodes 0) (scalar v) _ _ (λ i. scalar_true v i) (λ i. tt))
    (λ e. tt))

digits_decode : (left v at : ℕ) (t : List ℕ) → Decodes 0 (digits_of left v at t)
unfolding digits_of
digits_decode zero v at t = close_decodes false v at t
digits_decode (suc left) v at [] = tt
digits_decode (suc left) v at (b ∷ t) =
    cond_cases (Decodes 0) (eqb b 0x7D) _ _ (λ e. close_decodes (eqb (suc left) 6) v at (b ∷ t))
    (λ n. cond_cases (Decodes 0) (eqb (hex_of b) 16) _ _ (λ e. tt) (λ e. digits_decode left (v * 16 + hex_of b) (at + 1) t))

unicode_decodes : (at : ℕ) (t : List ℕ) → Decodes 0 (unicode_escape at t)
unfolding unicode_escape
unicode_decodes at [] = tt
unicode_decodes at (b ∷ t) = cond_cases (Decodes 0) (eqb b 0x7B) _ _ (λ e. digits_decode 6 0 (at + 1) t) (λ e. tt)

next_decodes : (at : ℕ) (t : List ℕ) → Decodes 256 (next_byte at t)
unfolding next_byte
next_decodes at t =
    cond_cases (Decodes 256) (eqb (get_or t 0 0) 0x5C && eqb (get_or t 1 0) 0x78) _ _ (λ e. two_decodes (at + 2) (drop 2 t)) (λ e. tt)

-- where a character stands, its code point is a scalar value
pub code_scalar : (s : List ℕ) → (char_len s ≡ 0 → ⊥) → Scalar (code_of s)
code_scalar s n = go (char_len s) refl (head_view s)
  where
    go : (w : ℕ) → char_len s ≡ w → Head s w → Scalar (code_of s)
    go w e no_char = absurd (n e)
    go w e (a_char {l} t ch f q) =
        let k = char_scalar l ch in
        subst (λ (c : ℕ). Scalar c)
        (sym (ap code_of (q ∙ ap (λ (x : List ℕ). x ++ t) (sym k.1)) ∙ decode_encode (code_of l) t k.0))
        k.0

step_decodes : (left : ℕ) (bs : List ℕ) (t : List ℕ) (a : EscapeAnswer) → Decodes 256 a
    → ((b p : ℕ) → Decodes 0 (more_bytes left (bs ++ b ∷ []) p (drop 4 t)))
    → Decodes 0 (with_byte a (λ b p. cond (eqb (char_len (bs ++ b ∷ [])) 0) (more_bytes left (bs ++ b ∷ []) p (drop 4 t)) (Utf8 (code_of (bs ++ b ∷ [])) p)))
step_decodes left bs t (Ascii b p) h rest =
    cond_cases (Decodes 0) (eqb (char_len (bs ++ b ∷ [])) 0) _ _ (λ e. rest b p)
    (λ e. code_scalar (bs ++ b ∷ []) (eqb-false (char_len (bs ++ b ∷ [])) 0 e))
step_decodes left bs t (Utf8 c p) h rest = h
step_decodes left bs t (Refused r) h rest = tt

more_decode : (left : ℕ) (bs : List ℕ) (at : ℕ) (t : List ℕ) → Decodes 0 (more_bytes left bs at t)
unfolding more_bytes
more_decode zero bs at t = tt
more_decode (suc left) bs at t =
    step_decodes left bs t (next_byte at t) (next_decodes at t) (λ b p. more_decode left (bs ++ b ∷ []) p (drop 4 t))

raise : (low top : ℕ) (a : EscapeAnswer) → low ≤ top → Decodes low a → Decodes top a
raise low top (Ascii b n) l h = omega arith
raise low top (Utf8 c n) l h = h
raise low top (Refused r) l h = tt

ascii_scalar : (b : ℕ) → ltb b 0x80 ≡ true → Scalar b
ascii_scalar b e = let h = ltb-true b 0x80 e in (omega arith, inl (omega arith))

hex_by_decodes : (m : Mode) (t : List ℕ) (a : EscapeAnswer) → Decodes 256 a → Decodes (top_of m) (with_byte a (hex_by m t))
hex_by_decodes Str t (Ascii b p) h =
    cond_cases (Decodes 0x80) (ltb b 0x80) _ _ (ascii_scalar b)
    (λ e. raise 0 0x80 (more_bytes 3 (b ∷ []) p t) (omega arith) (more_decode 3 (b ∷ []) p t))
hex_by_decodes Char t (Ascii b p) h = cond_cases (Decodes 0x80) (ltb b 0x80) _ _ (ascii_scalar b) (λ e. tt)
hex_by_decodes Bytes t (Ascii b p) h = h
hex_by_decodes m t (Utf8 c p) h = h
hex_by_decodes m t (Refused r) h = tt

hex_decodes : (m : Mode) (at : ℕ) (t : List ℕ) → Decodes (top_of m) (hex_escape m at t)
unfolding hex_escape
hex_decodes m at t = hex_by_decodes m (drop 2 t) (two_digits at t) (two_decodes at t)

-- a letter stands for ASCII
Letter : ℕ → Type 0
Letter n = n < 256 → n < 0x80

simple_decodes : (b : ℕ) → simple_of b < 256 → simple_of b < 0x80
unfolding simple_of Letter
simple_decodes b =
    cond_cases Letter (eqb b 0x27) _ _ (λ e h. omega arith)
    (λ n1. cond_cases Letter (eqb b 0x22) _ _ (λ e h. omega arith)
    (λ n2. cond_cases Letter (eqb b 0x5C) _ _ (λ e h. omega arith)
    (λ n3. cond_cases Letter (eqb b 0x6E) _ _ (λ e h. omega arith)
    (λ n4. cond_cases Letter (eqb b 0x72) _ _ (λ e h. omega arith)
    (λ n5. cond_cases Letter (eqb b 0x74) _ _ (λ e h. omega arith)
    (λ n6. cond_cases Letter (eqb b 0x30) _ _ (λ e h. omega arith) (λ n7 h. absurd (omega arith))))))))

low_top : (m : Mode) → 0x80 ≤ top_of m
low_top Str = omega arith
low_top Char = omega arith
low_top Bytes = omega arith

pub decoded : (m : Mode) (s : List ℕ) → Decodes (top_of m) (escape_of m s)
unfolding escape_of
decoded m [] = tt
decoded m (b ∷ t) =
    cond_cases (Decodes (top_of m)) (ltb (simple_of b) 256) _ _
    (λ e. omega (arith, low_top m, simple_decodes b (ltb-true (simple_of b) 256 e)))
    (λ n1. cond_cases (Decodes (top_of m)) (eqb b 0x78) _ _ (λ e. hex_decodes m 1 t)
    (λ n2. cond_cases (Decodes (top_of m)) (eqb b 0x75) _ _
    (λ e. raise 0 (top_of m) (unicode_escape 1 t) (omega arith) (unicode_decodes 1 t))
    (λ n3. tt)))

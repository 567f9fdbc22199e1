-- A char is refused with 13, for a reason at a place, exactly where its escape is wrong so (`char-13`), and a byte literal too, or where its escape means a
-- character by its code point (`byte-13`). Assumes nothing.
use Rattle.std.proofs.Common.{Err}
use Rattle.text.specs.Refusals.{Told, eof, expected_byte_literal, expected_char, invalid_escape, placed_behind}
use Prim.Native.Nat.{ℕ, suc, ◌+◌, ◌-◌}
use native.Mathlib.Omega.{arith}
use mathlib.Core.Bool.{◌&&◌, false}
use mathlib.Core.List.{List, [], ◌∷◌}
use mathlib.Core.Logic.{◌↔◌}
use mathlib.Core.Path.{◌≡◌, ◌∙◌, ap, refl, subst}
use lib.Dec.{eqb, ltb}
use lib.ListN.{drop, get_or, length, length-drop}
use borrow.Author.Tests.{eqb-true, ne_eqb}
use Rattle.escaped.proofs.Exactly.{escape_exactly, escape_reads}
use Rattle.escaped.proofs.Reasons.{escape_13}
use Rattle.escaped.specs.Escape.Meant.{point}
use Rattle.escapes.specs.Escapes.{escape_of}
use Rattle.escapes.specs.declared.answers.EscapeAnswer.{EscapeAnswer}
use Rattle.escapes.specs.declared.answers.EscapeAnswer.TheVariants.{Ascii, Utf8, Refused}
use Rattle.escapes.specs.declared.answers.Mode.TheVariants.{Bytes, Char}
use Rattle.quoted.proofs.Thirteen.{unicode_told, unplaced}
use Rattle.quoted.specs.Wrong.{WrongByte, WrongChar}
use Rattle.strings.proofs.CharLaws.{byte_short}
use Rattle.strings.specs.Chars.{by_byte_escape, by_char_escape, byte_ends, byte_of, char_ends, char_of}
use Rattle.text.proofs.Choices.{and_true, bool_cases, cond_cases, either}
use Rattle.text.specs.Utf8.{char_len, code_of}
use Rattle.text.specs.declared.reason.EscapeReason.{EscapeReason}
use Rattle.text.specs.declared.reason.EscapeReason.TheVariants.{UnicodeInByteLiteral}
use Rattle.text.specs.declared.refusal.Refusal.{Refusal}

-- ---- chars: what is refused with 13 is wrong

-- what is to be shown of an answer over s
abbrev Tells-char : List ℕ → Told (ℕ × ℕ) → Type 0
Tells-char s a = (why : EscapeReason) (p : ℕ) → a ≡ Err (invalid_escape why p) → WrongChar s why p

-- of another refusal nothing is to be shown
char_other : (s : List ℕ) (r : Refusal) → (r.number ≡ 13 → ⊥) → Tells-char s (Err r)
char_other s r n why p e = let q : r ≡ invalid_escape why p = cc in absurd (n (ap (λ (i : Refusal). i.number) q))

-- nor where the closing quote is asked for
char-ends : (s z : List ℕ) (at code : ℕ) → Tells-char s (char_ends z at code)
unfolding char_ends
char-ends s z at code =
    cond_cases (Tells-char s) (eqb (get_or z at 0) 0x27) _ _
    (λ q why p e. let x : ◌≡◌ {A = ℕ} 0 1 = cc in absurd (omega arith))
    (λ q. char_other s (expected_char at) (λ i. omega (arith, i)))

-- by what the reader of escapes says
char_escape : (w : List ℕ) (a : EscapeAnswer) → escape_of Char w ≡ a → Tells-char (0x27 ∷ 0x5C ∷ w) (by_char_escape (0x27 ∷ 0x5C ∷ w) a)
char_escape w (Ascii b k) e why p f = char-ends (0x27 ∷ 0x5C ∷ w) (0x27 ∷ 0x5C ∷ w) (2 + k) b why p f
char_escape w (Utf8 c k) e why p f = char-ends (0x27 ∷ 0x5C ∷ w) (0x27 ∷ 0x5C ∷ w) (2 + k) c why p f
char_escape w (Refused r) e why p f =
    let q : placed_behind 2 r ≡ invalid_escape why p = cc in
    let u = unplaced 2 r why p q in
    subst (WrongChar (0x27 ∷ 0x5C ∷ w) why) u.1 (WrongChar.escape ((escape_13 Char w why r.place).0 (e ∙ ap Refused u.0)))

-- the char, where two bytes are known to be there
char_two : (a b : ℕ) (w : List ℕ) → Tells-char (a ∷ b ∷ w) (char_of (a ∷ b ∷ w))
unfolding char_of
char_two a b w =
    either (bool_cases (eqb a 0x27))
    (λ p. rw (eqb-true a 0x27 p, ne_eqb (suc (suc (length w))) 1 (λ i. omega arith))
    (either (bool_cases (eqb b 0x5C))
    (λ q. rw (eqb-true b 0x5C q) (char_escape w (escape_of Char w) refl))
    (λ q. rw q (char-ends (0x27 ∷ b ∷ w) (0x27 ∷ b ∷ w) (1 + char_len (b ∷ w)) (code_of (b ∷ w))))))
    (λ p. rw p (char_other (a ∷ b ∷ w) (expected_char 0) (λ i. omega (arith, i))))

-- what is refused with 13 is a wrong char
char_tells : (s : List ℕ) → Tells-char s (char_of s)
unfolding char_of
char_tells [] = char_other [] (expected_char 0) (λ i. omega (arith, i))
char_tells (a ∷ []) =
    cond_cases (Tells-char (a ∷ [])) (eqb a 0x27) _ _ (λ p. char_other (a ∷ []) (eof 1) (λ i. omega (arith, i)))
    (λ p. char_other (a ∷ []) (expected_char 0) (λ i. omega (arith, i)))
char_tells (a ∷ b ∷ w) = char_two a b w

-- ---- and the other way round

-- behind `'\` the escape decides
char_behind : (w : List ℕ) → char_of (0x27 ∷ 0x5C ∷ w) ≡ by_char_escape (0x27 ∷ 0x5C ∷ w) (escape_of Char w)
unfolding char_of
char_behind w = rw (ne_eqb (suc (suc (length w))) 1 (λ i. omega arith))

-- a wrong char is refused with 13
char_wrong : {s : List ℕ} {why : EscapeReason} {p : ℕ} → WrongChar s why p → char_of s ≡ Err (invalid_escape why p)
char_wrong (WrongChar.escape {why} {p} {s} x) = char_behind s ∙ ap (by_char_escape (0x27 ∷ 0x5C ∷ s)) ((escape_13 Char s why p).1 x)

-- a char is refused with 13, for a reason at a place, exactly where its escape is wrong so
pub char_13 : (s : List ℕ) (why : EscapeReason) (p : ℕ) → (char_of s ≡ Err (invalid_escape why p)) ↔ WrongChar s why p
char_13 s why p = (λ e. char_tells s why p e, λ x. char_wrong x)

-- ---- byte literals: what is refused with 13 is wrong

-- what is to be shown of an answer over s
abbrev Tells-byte : List ℕ → Told (ℕ × ℕ) → Type 0
Tells-byte s a = (why : EscapeReason) (p : ℕ) → a ≡ Err (invalid_escape why p) → WrongByte s why p

-- of another refusal nothing is to be shown
byte_other : (s : List ℕ) (a : Told (ℕ × ℕ)) (r : Refusal) → a ≡ Err r → (r.number ≡ 13 → ⊥) → Tells-byte s a
byte_other s a r h n why p e = let q : r ≡ invalid_escape why p = cc in absurd (n (ap (λ (i : Refusal). i.number) q))

-- nor where the closing quote is asked for
byte-ends : (s z : List ℕ) (at b : ℕ) → Tells-byte s (byte_ends z at b)
unfolding byte_ends
byte-ends s z at b =
    cond_cases (Tells-byte s) (eqb (get_or z at 0) 0x27) _ _
    (λ q why p e. let x : ◌≡◌ {A = ℕ} 0 1 = cc in absurd (omega arith))
    (λ q. byte_other s _ (expected_byte_literal at) refl (λ i. omega (arith, i)))

-- by what the reader of escapes says
byte_escape : (w : List ℕ) (a : EscapeAnswer) → escape_of Bytes w ≡ a → Tells-byte (0x62 ∷ 0x27 ∷ 0x5C ∷ w) (by_byte_escape (0x62 ∷ 0x27 ∷ 0x5C ∷ w) a)
byte_escape w (Ascii b k) e why p f = byte-ends (0x62 ∷ 0x27 ∷ 0x5C ∷ w) (0x62 ∷ 0x27 ∷ 0x5C ∷ w) (3 + k) b why p f
byte_escape w (Utf8 c k) e why p f =
    let q : invalid_escape UnicodeInByteLiteral (3 + k) ≡ invalid_escape why p = cc in
    let u = unicode_told why (3 + k) p q in
    let x = (escape_exactly Bytes w (point c) k).0 e in
    let far : 3 + (length w - length (drop k w)) ≡ p = omega (arith, x.0, u.1, length-drop k w) in
    subst (λ (i : EscapeReason). WrongByte (0x62 ∷ 0x27 ∷ 0x5C ∷ w) i p) u.0
    (subst (WrongByte (0x62 ∷ 0x27 ∷ 0x5C ∷ w) UnicodeInByteLiteral) far (WrongByte.unicode x.1))
byte_escape w (Refused r) e why p f =
    let q : placed_behind 3 r ≡ invalid_escape why p = cc in
    let u = unplaced 3 r why p q in
    subst (WrongByte (0x62 ∷ 0x27 ∷ 0x5C ∷ w) why) u.1 (WrongByte.escape ((escape_13 Bytes w why r.place).0 (e ∙ ap Refused u.0)))

-- behind `b'`, where a byte is known to be there
byte_three : (a : ℕ) (w : List ℕ) → Tells-byte (0x62 ∷ 0x27 ∷ a ∷ w) (byte_of (0x62 ∷ 0x27 ∷ a ∷ w))
unfolding byte_of
byte_three a w =
    rw (ne_eqb (suc (suc (suc (length w)))) 2 (λ i. omega arith))
    (either (bool_cases (eqb a 0x5C))
    (λ q. rw (eqb-true a 0x5C q) (byte_escape w (escape_of Bytes w) refl))
    (λ q. rw q (cond_cases (Tells-byte (0x62 ∷ 0x27 ∷ a ∷ w)) (ltb a 0x80) _ _
    (λ t. byte-ends (0x62 ∷ 0x27 ∷ a ∷ w) (0x62 ∷ 0x27 ∷ a ∷ w) 3 a)
    (λ t. byte_other (0x62 ∷ 0x27 ∷ a ∷ w) _ (expected_byte_literal (2 + char_len (a ∷ w))) refl (λ i. omega (arith, i))))))

-- behind `b'`
byte_opened : (w : List ℕ) → Tells-byte (0x62 ∷ 0x27 ∷ w) (byte_of (0x62 ∷ 0x27 ∷ w))
unfolding byte_of
byte_opened [] = byte_other (0x62 ∷ 0x27 ∷ []) (byte_of (0x62 ∷ 0x27 ∷ [])) (eof 2) refl (λ i. omega (arith, i))
byte_opened (a ∷ w) = byte_three a w

-- no byte literal begins otherwise
byte_unopened : (x y : ℕ) (w : List ℕ) → (eqb x 0x62 && eqb y 0x27) ≡ false → byte_of (x ∷ y ∷ w) ≡ Err (expected_byte_literal 0)
unfolding byte_of
byte_unopened x y w e = rw e

-- what is refused with 13 is a wrong byte literal
byte_tells : (s : List ℕ) → Tells-byte s (byte_of s)
byte_tells [] = byte_other [] (byte_of []) (expected_byte_literal 0) (byte_short [] (omega arith)) (λ i. omega (arith, i))
byte_tells (x ∷ []) = byte_other (x ∷ []) (byte_of (x ∷ [])) (expected_byte_literal 0) (byte_short (x ∷ []) (omega arith)) (λ i. omega (arith, i))
byte_tells (x ∷ y ∷ w) =
    either (bool_cases (eqb x 0x62 && eqb y 0x27))
    (λ p. let q = and_true (eqb x 0x62) (eqb y 0x27) p in rw (eqb-true x 0x62 q.0, eqb-true y 0x27 q.1) (byte_opened w))
    (λ p. byte_other (x ∷ y ∷ w) (byte_of (x ∷ y ∷ w)) (expected_byte_literal 0) (byte_unopened x y w p) (λ i. omega (arith, i)))

-- ---- and the other way round

-- behind `b'\` the escape decides
byte_behind : (w : List ℕ) → byte_of (0x62 ∷ 0x27 ∷ 0x5C ∷ w) ≡ by_byte_escape (0x62 ∷ 0x27 ∷ 0x5C ∷ w) (escape_of Bytes w)
unfolding byte_of
byte_behind w = rw (ne_eqb (suc (suc (suc (length w)))) 2 (λ i. omega arith))

-- a wrong byte literal is refused with 13
byte_wrong : {s : List ℕ} {why : EscapeReason} {p : ℕ} → WrongByte s why p → byte_of s ≡ Err (invalid_escape why p)
byte_wrong (WrongByte.escape {why} {p} {s} x) = byte_behind s ∙ ap (by_byte_escape (0x62 ∷ 0x27 ∷ 0x5C ∷ s)) ((escape_13 Bytes s why p).1 x)
byte_wrong (WrongByte.unicode {c} {s} {t} x) =
    let r = escape_reads x in
    let far : r.0 ≡ length s - length t = omega (arith, r.1, ap length r.2, length-drop r.0 s) in
    byte_behind s ∙ ap (by_byte_escape (0x62 ∷ 0x27 ∷ 0x5C ∷ s)) r.3 ∙ ap (λ (i : ℕ). Err (invalid_escape UnicodeInByteLiteral (3 + i))) far

-- a byte literal is refused with 13, for a reason at a place, exactly where its escape is wrong so, or means a character by its code point
pub byte_13 : (s : List ℕ) (why : EscapeReason) (p : ℕ) → (byte_of s ≡ Err (invalid_escape why p)) ↔ WrongByte s why p
byte_13 s why p = (λ e. byte_tells s why p e, λ x. byte_wrong x)

-- A byte literal is refused with 6 exactly where it is cut off, at the end of the text, and else with 13 or 15. Assumes nothing.
--     byte-says     what a refused byte literal says
--     cut-byte      a byte literal that is cut off is refused with 6
use Rattle.std.proofs.Common.{Ok, Err}
use Prim.Native.Nat.{ℕ, zero, suc, ◌+◌, ◌*◌, ◌<◌, ◌≤◌}
use native.Mathlib.Omega.{arith}
use mathlib.Core.Bool.{Bool, true, false, true≢false, ◌&&◌}
use mathlib.Core.List.{List, [], ◌∷◌}
use mathlib.Core.Logic.{◌⊎◌, inl, inr}
use mathlib.Core.Path.{◌≡◌, ap, refl, subst, sym, ◌∙◌}
use lib.Dec.{eqb, ltb}
use lib.ListN.{drop, get_or, length}
use borrow.Author.Tests.{eqb-false, eqb-true, ne_eqb}
use Rattle.text.proofs.Choices.{and_true, cond_cases}
use Rattle.text.specs.Refusals.{Told, eof}
use Rattle.text.specs.Utf8.{scalar}
use Rattle.text.specs.Words.{starts_with}
use Rattle.text.specs.declared.refusal.Refusal.{Refusal}
use Rattle.hexes.proofs.HexLaws.{hex_above, hex_le, hex_none}
use Rattle.escaped.specs.Escape.{Hex}
use Rattle.escaped.specs.Escape.Hex.{none as no_more, more as one_more}
use Rattle.escapes.specs.Escapes.{close_of, digits_of, escape_of, hex_by, hex_escape, hex_of, second_digit, simple_of, two_digits, unicode_escape, with_byte}
use Rattle.escapes.specs.declared.answers.Mode.TheVariants.{Bytes}
use Rattle.escapes.specs.declared.answers.EscapeAnswer.{EscapeAnswer}
use Rattle.escapes.specs.declared.answers.EscapeAnswer.TheVariants.{Ascii, Utf8, Refused}
use Rattle.strings.specs.Chars.{by_byte_escape, byte_ends, byte_of}
use Rattle.written.specs.Refused.{CutByte, CutEscape}
use Rattle.written.specs.Refused.CutByte.{no_byte, in_escape}
use Rattle.written.specs.Refused.CutEscape.{no_letter, no_digits, one_digit, not_closed}
use Rattle.written.specs.Written.{byte_literal}

-- ---- what a refused escape says

-- a refusal is 13, or 6 at the place `end` in the case C
abbrev Six : Type 0 → ℕ → Refusal → Type 0
Six C end r = (C × (r ≡ eof end)) ⊎ (r.number ≡ 13)

-- so of an escape's answer
abbrev Says : Type 0 → ℕ → EscapeAnswer → Type 0
Says C end (Ascii b n) = Unit {0}
Says C end (Utf8 c n) = Unit {0}
Says C end (Refused r) = Six C end r

hex_says : (t : List ℕ) → Says (CutEscape (0x78 ∷ t)) (length (0x78 ∷ t)) (two_digits 1 t)
unfolding two_digits second_digit
hex_says [] = inl (no_digits, refl)
hex_says (h ∷ []) =
    cond_cases (Says (CutEscape (0x78 ∷ h ∷ [])) 2) (eqb (hex_of h) 16) _ _ (λ p. inr refl) (λ p. let n = eqb-false (hex_of h) 16 p in inl (one_digit (omega (arith, hex_le h)), refl))
hex_says (h ∷ l ∷ t) =
    let S : EscapeAnswer → Type 0 = Says (CutEscape (0x78 ∷ h ∷ l ∷ t)) (length (0x78 ∷ h ∷ l ∷ t)) in
    cond_cases S (eqb (hex_of h) 16) _ _ (λ p. inr refl) (λ p. cond_cases S (eqb (hex_of l) 16) _ _ (λ q. inr refl) (λ q. tt))

-- hex digits behind others that come to v, and fewer than are left
abbrev Open : ℕ → ℕ → List ℕ → Type 0
Open left v t = ((w : ℕ) × Hex v t w) × (length t < left)

close : (C : Type 0) (end : ℕ) (empty : Bool) (v at : ℕ) (t : List ℕ) → Says C end (close_of empty v at t)
unfolding close_of
close C end empty v at [] = cond_cases (Says C end) empty _ _ (λ p. inr refl) (λ p. inr refl)
close C end empty v at (b ∷ t) =
    cond_cases (Says C end) empty _ _ (λ p. inr refl) λ p.
    cond_cases (Says C end) (eqb b 0x7D) _ _ (λ q. cond_cases (Says C end) (scalar v) _ _ (λ r. tt) (λ r. inr refl)) (λ q. inr refl)

-- what is said of the rest of the digits is said of all
said_more : (C D : Type 0) (end : ℕ) (a : EscapeAnswer) → (C → D) → Says C end a → Says D end a
said_more C D end (Ascii b n) f h = tt
said_more C D end (Utf8 c n) f h = tt
said_more C D end (Refused r) f (inl x) = inl (f x.0, x.1)
said_more C D end (Refused r) f (inr x) = inr x

digits_say : (t : List ℕ) (left v at : ℕ) → Says (Open left v t) (at + length t) (digits_of left v at t)
unfolding digits_of
digits_say t zero v at = close _ _ false v at t
digits_say [] (suc left) v at = inl (((v, no_more), omega arith), ap eof (omega arith))
digits_say (b ∷ t) (suc left) v at =
    let S : EscapeAnswer → Type 0 = Says (Open (suc left) v (b ∷ t)) (at + length (b ∷ t)) in
    let w : ℕ = v * 16 + hex_of b in
    cond_cases S (eqb b 0x7D) _ _ (λ p. close _ _ (eqb (suc left) 6) v at (b ∷ t)) λ p.
    cond_cases S (eqb (hex_of b) 16) _ _ (λ q. inr refl)
    (λ q. let n = eqb-false (hex_of b) 16 q in
    let l : at + 1 + length t ≡ at + length (b ∷ t) = omega arith in
    subst (λ (e : ℕ). Says (Open (suc left) v (b ∷ t)) e (digits_of left w (at + 1) t)) l
    (said_more (Open left w t) (Open (suc left) v (b ∷ t)) _ (digits_of left w (at + 1) t) (λ x. ((x.0.0, one_more (omega (arith, hex_le b)) x.0.1), omega (arith, x.1))) (digits_say t left w (at + 1))))

braced : (t : List ℕ) → Open 6 0 t → CutEscape (0x75 ∷ 0x7B ∷ t)
braced t o = not_closed o.0.1 o.1

unicode_says : (t : List ℕ) → Says (CutEscape (0x75 ∷ t)) (length (0x75 ∷ t)) (unicode_escape 1 t)
unfolding unicode_escape
unicode_says [] = inr refl
unicode_says (b ∷ t) =
    cond_cases (Says (CutEscape (0x75 ∷ b ∷ t)) (length (0x75 ∷ b ∷ t))) (eqb b 0x7B) _ _
    (λ p.
    let l : 1 + 1 + length t ≡ length (0x75 ∷ b ∷ t) = omega arith in
    let c : CutEscape (0x75 ∷ 0x7B ∷ t) → CutEscape (0x75 ∷ b ∷ t) = subst (λ (x : ℕ). CutEscape (0x75 ∷ x ∷ t)) (sym (eqb-true b 0x7B p)) in
    subst (λ (e : ℕ). Says (CutEscape (0x75 ∷ b ∷ t)) e (digits_of 6 0 2 t)) l
    (said_more (Open 6 0 t) (CutEscape (0x75 ∷ b ∷ t)) _ (digits_of 6 0 2 t) (λ o. c (braced t o)) (digits_say t 6 0 2)))
    (λ p. inr refl)

-- a byte behind `\x` is any byte
any_byte : (C : Type 0) (end : ℕ) (t : List ℕ) (a : EscapeAnswer) → Says C end a → Says C end (with_byte a (hex_by Bytes t))
any_byte C end t (Ascii b n) h = tt
any_byte C end t (Utf8 c n) h = tt
any_byte C end t (Refused r) h = h

escape_says : (s : List ℕ) → Says (CutEscape s) (length s) (escape_of Bytes s)
unfolding escape_of hex_escape
escape_says [] = inl (no_letter, refl)
escape_says (b ∷ t) =
    let S : EscapeAnswer → Type 0 = Says (CutEscape (b ∷ t)) (length (b ∷ t)) in
    cond_cases S (ltb (simple_of b) 256) _ _ (λ p. tt) λ p.
    cond_cases S (eqb b 0x78) _ _
    (λ q. any_byte _ _ (drop 2 t) (two_digits 1 t) (said_more _ _ _ (two_digits 1 t) (subst (λ (x : ℕ). CutEscape (x ∷ t)) (sym (eqb-true b 0x78 q))) (hex_says t))) λ q.
    cond_cases S (eqb b 0x75) _ _
    (λ r. said_more _ _ _ (unicode_escape 1 t) (subst (λ (x : ℕ). CutEscape (x ∷ t)) (sym (eqb-true b 0x75 r))) (unicode_says t)) (λ r. inr refl)

-- ---- what a refused byte literal says

-- 6 at the end, where it is cut off, or 13 or 15
abbrev Says-byte : List ℕ → Told (ℕ × ℕ) → Type 0
Says-byte s (Ok (n, b)) = Unit {0}
Says-byte s (Err r) = (CutByte s × (r ≡ eof (length s))) ⊎ ((13 ≤ r.number) × (r.number ≤ 15))

ends_say : (s : List ℕ) (at b : ℕ) → Says-byte s (byte_ends s at b)
unfolding byte_ends
ends_say s at b = cond_cases (Says-byte s) (eqb (get_or s at 0) 0x27) _ _ (λ p. tt) (λ p. inr (omega arith, omega arith))

by-escape : (s : List ℕ) (end : ℕ) (C : Type 0) (a : EscapeAnswer) → (C → CutByte s) → 3 + end ≡ length s → Says C end a → Says-byte s (by_byte_escape s a)
by-escape s end C (Ascii b n) f l h = ends_say s (3 + n) b
by-escape s end C (Utf8 c n) f l h = inr (omega arith, omega arith)
by-escape s end C (Refused r) f l (inl x) = inl (f x.0, rw x.1 (ap eof l))
by-escape s end C (Refused r) f l (inr x) = inr (omega arith, omega arith)

-- the byte literal `b'`, then s
byte_rest : (s : List ℕ) → Says-byte (0x62 ∷ 0x27 ∷ s) (byte_of (0x62 ∷ 0x27 ∷ s))
unfolding byte_of
byte_rest [] = inl (no_byte, refl)
byte_rest (c ∷ t) =
    let S : Told (ℕ × ℕ) → Type 0 = Says-byte (0x62 ∷ 0x27 ∷ c ∷ t) in
    rw (ne_eqb (length (0x62 ∷ 0x27 ∷ c ∷ t)) 2 (λ z. omega arith))
    (cond_cases S (eqb c 0x5C) _ _
    (λ p. by-escape (0x62 ∷ 0x27 ∷ c ∷ t) (length t) (CutEscape t) (escape_of Bytes t)
    (λ x. subst (λ (y : ℕ). CutByte (0x62 ∷ 0x27 ∷ y ∷ t)) (sym (eqb-true c 0x5C p)) (in_escape x)) (omega arith) (escape_says t)) λ p.
    cond_cases S (ltb c 0x80) _ _ (λ q. ends_say (0x62 ∷ 0x27 ∷ c ∷ t) 3 c) (λ q. inr (omega arith, omega arith)))

-- a part that begins with `b'`
pub begins_byte : (s : List ℕ) → byte_literal s ≡ true → (t : List ℕ) × (s ≡ 0x62 ∷ 0x27 ∷ t)
unfolding starts_with
begins_byte [] h = absurd (true≢false (sym h))
begins_byte (a ∷ []) h = absurd (true≢false (sym (and_true (eqb a 0x62) false h).1))
begins_byte (a ∷ b ∷ t) h =
    let p = and_true (eqb a 0x62) (eqb b 0x27 && true) h in
    let q = and_true (eqb b 0x27) true p.1 in
    (t, ap (λ (x : ℕ). x ∷ b ∷ t) (eqb-true a 0x62 p.0) ∙ ap (λ (x : ℕ). 0x62 ∷ x ∷ t) (eqb-true b 0x27 q.0))

-- what a refused byte literal says
pub byte_says : (s : List ℕ) (r : Refusal) → byte_literal s ≡ true → byte_of s ≡ Err r → (CutByte s × (r ≡ eof (length s))) ⊎ ((13 ≤ r.number) × (r.number ≤ 15))
byte_says s r h e =
    let p = begins_byte s h in
    subst (Says-byte s) e (subst (λ (u : List ℕ). Says-byte u (byte_of u)) (sym p.1) (byte_rest p.0))

-- ---- a byte literal that is cut off

-- a closing brace is no hex digit
no_brace : (b : ℕ) → hex_of b < 16 → b ≡ 0x7D → ⊥
no_brace b d z = let e = hex_none b (hex_above b (omega arith)) in omega arith

digits_cut : (t : List ℕ) (left v w at : ℕ) → Hex v t w → length t < left → digits_of left v at t ≡ Refused (eof (at + length t))
unfolding digits_of
digits_cut [] zero v w at h l = absurd (omega arith)
digits_cut (b ∷ t) zero v w at h l = absurd (omega arith)
digits_cut [] (suc left) v w at h l = ap (λ (p : ℕ). Refused (eof p)) (omega arith)
digits_cut (b ∷ t) (suc left) v w at (one_more d h) l =
    let e : at + 1 + length t ≡ at + length (b ∷ t) = omega arith in
    rw (ne_eqb b 0x7D (no_brace b d), ne_eqb (hex_of b) 16 (λ z. omega arith))
    (digits_cut t left (v * 16 + hex_of b) w (at + 1) h (omega arith) ∙ ap (λ (p : ℕ). Refused (eof p)) e)

escape_cut : (s : List ℕ) → CutEscape s → escape_of Bytes s ≡ Refused (eof (length s))
unfolding escape_of hex_escape simple_of two_digits second_digit unicode_escape
escape_cut s no_letter = refl
escape_cut s no_digits = refl
escape_cut s (one_digit {h = h} d) = rw (ne_eqb (hex_of h) 16 (λ z. omega arith))
escape_cut s (not_closed {v = v} {ds = ds} h l) =
    let e : 2 + length ds ≡ length (0x75 ∷ 0x7B ∷ ds) = omega arith in
    digits_cut ds 6 0 v 2 h l ∙ ap (λ (p : ℕ). Refused (eof p)) e

-- a byte literal that is cut off is refused with 6, at the end
pub cut_byte : (s : List ℕ) → CutByte s → byte_of s ≡ Err (eof (length s))
unfolding byte_of
cut_byte s no_byte = refl
cut_byte s (in_escape {s = t} c) =
    let e : 3 + length t ≡ length (0x62 ∷ 0x27 ∷ 0x5C ∷ t) = omega arith in
    rw (ne_eqb (length (0x62 ∷ 0x27 ∷ 0x5C ∷ t)) 2 (λ z. omega arith), escape_cut t c) (ap (λ (p : ℕ). Err (eof p)) e)

-- and begins as one
pub cut_begins : (s : List ℕ) → CutByte s → byte_literal s ≡ true
unfolding starts_with
cut_begins s no_byte = refl
cut_begins s (in_escape c) = refl

-- A char is read exactly where one stands, and so is a byte literal. Assumes nothing.
use Rattle.std.proofs.Common.{Ok, Err}
use Rattle.text.specs.Refusals.{Told}
use Prim.Native.Nat.{ℕ, suc, zero, ◌+◌, ◌<◌, ◌≤◌}
use native.Mathlib.Numerals.{add-one}
use native.Mathlib.Omega.{arith}
use mathlib.Core.List.{List, [], ◌∷◌, ◌++◌}
use mathlib.Core.Path.{◌≡◌, ◌∙◌, ap, refl, subst, sym}
use lib.Dec.{eqb}
use lib.ListN.{drop, get_or, length, length-append}
use lib.Seq.{drop-append-add, drop-drop, get_or-append_seam}
use borrow.Author.Tests.{eq-eqb, eqb-false, eqb-true, ne_eqb}
use Rattle.escaped.proofs.Exactly.{escape_exactly, escape_reads}
use Rattle.escaped.specs.Escape.{Escape, Meant, Says}
use Rattle.escaped.specs.Escape.Meant.{byte, point}
use Rattle.escapes.specs.Escapes.{escape_of}
use Rattle.escapes.specs.declared.answers.EscapeAnswer.{EscapeAnswer}
use Rattle.escapes.specs.declared.answers.EscapeAnswer.TheVariants.{Ascii, Utf8, Refused}
use Rattle.escapes.specs.declared.answers.Mode.TheVariants.{Char}
use Rattle.quoted.proofs.Fronts.{begins, first_char, same_first, stands}
use Rattle.quoted.specs.Literals.{CharAt, point_of}
use Rattle.quoted.specs.Literals.CharAt.{escaped, itself}
use Rattle.strings.proofs.Bounds.{no_quote}
use Rattle.strings.specs.Chars.{by_char_escape, char_ends, char_of}
use Rattle.text.proofs.CharFronts.{code_ascii}
use Rattle.text.proofs.Choices.{bool_cases, cond_cases, either}
use Rattle.text.proofs.Lists.{head_at}
use Rattle.text.proofs.Utf8Agree.{char_encode, char_len_char, decode_encode}
use Rattle.text.specs.Utf8.{Scalar, char_len, code_of, encode}

-- ---- the closing quote

-- a character is read where the closing quote stands behind it
ends_reads : (s : List ℕ) (at code : ℕ) → get_or s at 0 ≡ 0x27 → char_ends s at code ≡ Ok (suc at, code)
unfolding char_ends
ends_reads s at code e = rw (eq-eqb (get_or s at 0) 0x27 e, add-one at)

-- and nowhere else
ends_read : (s : List ℕ) (at code n c : ℕ) → char_ends s at code ≡ Ok (n, c) → (get_or s at 0 ≡ 0x27) × (n ≡ at + 1) × (code ≡ c)
unfolding char_ends
ends_read s at code n c =
    cond_cases (λ (a : Told (ℕ × ℕ)). a ≡ Ok (n, c) → (get_or s at 0 ≡ 0x27) × (n ≡ at + 1) × (code ≡ c)) (eqb (get_or s at 0) 0x27) _ _
    (λ q e. let p : ◌≡◌ {A = ℕ × ℕ} (at + 1, code) (n, c) = cc in (eqb-true (get_or s at 0) 0x27 q, sym (ap (λ (x : ℕ × ℕ). x.0) p), ap (λ (x : ℕ × ℕ). x.1) p))
    (λ q e. let z : ◌≡◌ {A = ℕ} 0 1 = cc in absurd (omega arith))

-- ---- what is read stands there

-- what is to be shown of an answer over s
abbrev Stands : List ℕ → Told (ℕ × ℕ) → Type 0
Stands s a = (n c : ℕ) → a ≡ Ok (n, c) → (n ≤ length s) × CharAt s c (drop n s)

-- a character and the closing quote, of which the code point and the length are known
whole_stands : (b c k : ℕ) (w : List ℕ) → (b ≡ 0x5C → ⊥) → Scalar c → b ∷ w ≡ encode c ++ drop (suc k) (b ∷ w) → drop (suc k) (b ∷ w) ≡ 0x27 ∷ drop (suc k + 1) (b ∷ w)
    → CharAt (0x27 ∷ b ∷ w) c (drop (suc k + 1) (b ∷ w))
whole_stands b c k w ne sc e f =
    let g : encode c ++ 0x27 ∷ drop (suc k + 1) (b ∷ w) ≡ b ∷ w = ap (λ (x : List ℕ). encode c ++ x) (sym f) ∙ sym e in
    subst (λ (x : List ℕ). CharAt (0x27 ∷ x) c (drop (suc k + 1) (b ∷ w))) g
    (itself sc (λ i. ne (same_first c b w (drop (suc k) (b ∷ w)) (omega arith) e ∙ i)))

-- a character that is no escape, and the closing quote
plain_stands : (b : ℕ) (w : List ℕ) (k : ℕ) → (b ≡ 0x5C → ⊥) → char_len (b ∷ w) ≡ k → Stands (0x27 ∷ b ∷ w) (char_ends (0x27 ∷ b ∷ w) (1 + k) (code_of (b ∷ w)))
plain_stands b w zero ne h n c e =
    let q = ends_read (0x27 ∷ b ∷ w) 1 (code_of (b ∷ w)) n c e in
    let i = eqb-false b 0x27 (no_quote (0x27 ∷ b ∷ w) (omega arith) h) in
    absurd (i q.0)
plain_stands b w (suc k) ne h n c e =
    let one : 1 + suc k ≡ suc (suc k) = omega arith in
    let q = ends_read (0x27 ∷ b ∷ w) (suc (suc k)) (code_of (b ∷ w)) n c (rw one at e) in
    let f = first_char (b ∷ w) k h in
    let i : suc (suc k + 1) ≡ n = omega (arith, q.1) in
    let l = stands (b ∷ w) (suc k) 0x27 (omega arith) q.0 in
    let z = whole_stands b (code_of (b ∷ w)) k w ne f.0 f.1 (begins (b ∷ w) (suc k) 0x27 (omega arith) q.0) in
    (omega arith, subst (λ (x : ℕ). CharAt (0x27 ∷ b ∷ w) c (drop x (0x27 ∷ b ∷ w))) i (subst (λ (x : ℕ). CharAt (0x27 ∷ b ∷ w) x (drop (suc k + 1) (b ∷ w))) q.2 z))

-- an escape and the closing quote
escape_stands : (w : List ℕ) (v : Meant) (k : ℕ) → Says (escape_of Char w) v k → Stands (0x27 ∷ 0x5C ∷ w) (char_ends (0x27 ∷ 0x5C ∷ w) (2 + k) (point_of v))
escape_stands w v k a n c e =
    let two : 2 + k ≡ suc (suc k) = omega arith in
    let q = ends_read (0x27 ∷ 0x5C ∷ w) (suc (suc k)) (point_of v) n c (rw two at e) in
    let f = (escape_exactly Char w v k).0 a in
    let i : suc (suc (k + 1)) ≡ n = omega (arith, q.1) in
    let l = stands w k 0x27 (omega arith) q.0 in
    let z : CharAt (0x27 ∷ 0x5C ∷ w) (point_of v) (drop (k + 1) w) = escaped (subst (Escape Char w v) (begins w k 0x27 (omega arith) q.0) f.1) in
    (omega arith, subst (λ (x : ℕ). CharAt (0x27 ∷ 0x5C ∷ w) c (drop x (0x27 ∷ 0x5C ∷ w))) i (subst (λ (x : ℕ). CharAt (0x27 ∷ 0x5C ∷ w) x (drop (k + 1) w)) q.2 z))

-- the same by what the reader of escapes says
by-escape : (w : List ℕ) (a : EscapeAnswer) → escape_of Char w ≡ a → Stands (0x27 ∷ 0x5C ∷ w) (by_char_escape (0x27 ∷ 0x5C ∷ w) a)
by-escape w (Ascii b k) e n c f = escape_stands w (byte b) k e n c f
by-escape w (Utf8 d k) e n c f = escape_stands w (point d) k e n c f
by-escape w (Refused r) e n c f = let z : ◌≡◌ {A = ℕ} 0 1 = cc in absurd (omega arith)

-- the char, where two bytes are known to be there
of_two : (a b : ℕ) (w : List ℕ) → Stands (a ∷ b ∷ w) (char_of (a ∷ b ∷ w))
unfolding char_of
of_two a b w =
    either (bool_cases (eqb a 0x27))
    (λ p. rw (eqb-true a 0x27 p, ne_eqb (suc (suc (length w))) 1 (λ i. omega arith))
    (either (bool_cases (eqb b 0x5C))
    (λ q. rw (eqb-true b 0x5C q) (by-escape w (escape_of Char w) refl))
    (λ q. rw q (plain_stands b w (char_len (b ∷ w)) (eqb-false b 0x5C q) refl))))
    (λ p. rw p (λ n c e. let z : ◌≡◌ {A = ℕ} 0 1 = cc in absurd (omega arith)))

-- what is read is a char
pub char_stands : (s : List ℕ) → Stands s (char_of s)
unfolding char_of
char_stands [] n c e = let z : ◌≡◌ {A = ℕ} 0 1 = cc in absurd (omega arith)
char_stands (a ∷ []) n c e =
    either (bool_cases (eqb a 0x27))
    (λ p. let f : ◌≡◌ {A = Told (ℕ × ℕ)} (Err _) (Ok (n, c)) = rw p at e in let z : ◌≡◌ {A = ℕ} 0 1 = cc in absurd (omega arith))
    (λ p. let f : ◌≡◌ {A = Told (ℕ × ℕ)} (Err _) (Ok (n, c)) = rw p at e in let z : ◌≡◌ {A = ℕ} 0 1 = cc in absurd (omega arith))
char_stands (a ∷ b ∷ w) n c e = of_two a b w n c e

-- ---- the other way round

-- a character and the closing quote are read
plain_reads : (w : List ℕ) (k c : ℕ) → 0 < length w → (get_or w 0 0 ≡ 0x5C → ⊥) → char_len w ≡ k → code_of w ≡ c → get_or w k 0 ≡ 0x27 → char_of (0x27 ∷ w) ≡ Ok (suc (suc k), c)
unfolding char_of
plain_reads w k c h ne e f g =
    let one : 1 + k ≡ suc k = omega arith in
    simp (ne_eqb (suc (length w)) 1 (λ i. omega arith), ne_eqb (get_or w 0 0) 0x5C ne, e, f, one) (ends_reads (0x27 ∷ w) (suc k) c g)

-- an escape and the closing quote are read
escape_reads_char : (w : List ℕ) (v : Meant) (k : ℕ) → Says (escape_of Char w) v k → get_or w k 0 ≡ 0x27 → char_of (0x27 ∷ 0x5C ∷ w) ≡ Ok (suc (suc (suc k)), point_of v)
unfolding char_of
escape_reads_char w (byte b) k a g =
    let two : 2 + k ≡ suc (suc k) = omega arith in
    rw (ne_eqb (suc (suc (length w))) 1 (λ i. omega arith), a, two) (ends_reads (0x27 ∷ 0x5C ∷ w) (suc (suc k)) b g)
escape_reads_char w (point c) k a g =
    let two : 2 + k ≡ suc (suc k) = omega arith in
    rw (ne_eqb (suc (suc (length w))) 1 (λ i. omega arith), a, two) (ends_reads (0x27 ∷ 0x5C ∷ w) (suc (suc k)) c g)

-- a char is read, with its length and its code point
pub char_reads : {s t : List ℕ} {c : ℕ} → CharAt s c t → (n : ℕ) × (n ≤ length s) × (t ≡ drop n s) × (char_of s ≡ Ok (n, c))
char_reads (itself {c} {t} sc ne) =
    let s : List ℕ = encode c ++ 0x27 ∷ t in
    let k : ℕ = length (encode c) in
    let n : length s ≡ k + suc (length t) = length-append (encode c) (0x27 ∷ t) in
    let one : k + 1 ≡ suc k = add-one k in
    let code : code_of s ≡ c = decode_encode c (0x27 ∷ t) sc in
    let first : get_or s 0 0 ≡ 0x5C → ⊥ = λ e. ne (sym code ∙ code_ascii s (omega arith) ∙ e) in (
      suc (suc k),
      omega arith,
      sym (rw one at (drop-append-add (encode c) (0x27 ∷ t) 1)),
      plain_reads s k c (omega arith) first (char_len_char (encode c) (0x27 ∷ t) (char_encode c sc)) code (get_or-append_seam (encode c) 0x27 t 0),
    )
char_reads (escaped {v} {s} {t} x) =
    let r = escape_reads x in
    let k = r.0 in
    let g : get_or s k 0 ≡ 0x27 = sym (head_at s k) ∙ ap (λ (l : List ℕ). get_or l 0 0) (sym r.2) in
    let l = stands s k 0x27 (omega arith) g in
    (suc (suc (suc k)), omega arith, ap (drop 1) r.2 ∙ drop-drop 1 k s ∙ ap (λ (i : ℕ). drop i s) (add-one k), escape_reads_char s v k r.3 g)

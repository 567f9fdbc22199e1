-- A byte literal is read exactly where one stands. Assumes nothing.
use Rattle.std.proofs.Common.{Ok, Err}
use Rattle.text.specs.Refusals.{Told, eof, expected_byte_literal}
use Prim.Native.Nat.{ℕ, suc, ◌+◌, ◌<◌, ◌≤◌}
use native.Mathlib.Numerals.{add-one}
use native.Mathlib.Omega.{arith}
use mathlib.Core.Bool.{◌&&◌, false}
use mathlib.Core.List.{List, [], ◌∷◌}
use mathlib.Core.Path.{◌≡◌, ◌∙◌, ap, refl, subst, sym}
use lib.Dec.{eqb, ltb}
use lib.ListN.{drop, get_or, length}
use lib.Seq.{drop-drop}
use borrow.Author.Tests.{eq-eqb, eqb-false, eqb-true, lt-ltb, ltb-true, ne_eqb}
use Rattle.escaped.proofs.Exactly.{escape_exactly, escape_reads}
use Rattle.escaped.specs.Escape.{Escape}
use Rattle.escaped.specs.Escape.Meant.{byte}
use Rattle.escapes.specs.Escapes.{escape_of}
use Rattle.escapes.specs.declared.answers.EscapeAnswer.{EscapeAnswer}
use Rattle.escapes.specs.declared.answers.EscapeAnswer.TheVariants.{Ascii, Utf8, Refused}
use Rattle.escapes.specs.declared.answers.Mode.TheVariants.{Bytes}
use Rattle.quoted.proofs.Fronts.{begins, stands}
use Rattle.quoted.specs.Literals.{ByteAt}
use Rattle.quoted.specs.Literals.ByteAt.{escaped, itself}
use Rattle.strings.proofs.CharLaws.{byte_short}
use Rattle.strings.specs.Chars.{by_byte_escape, byte_ends, byte_of}
use Rattle.text.proofs.Choices.{and_true, bool_cases, cond_cases, either}
use Rattle.text.proofs.Lists.{head_at}
use Rattle.text.specs.declared.refusal.Refusal.{Refusal}

-- ---- the closing quote

-- a byte is read where the closing quote stands behind it
ends_reads : (s : List ℕ) (at b : ℕ) → get_or s at 0 ≡ 0x27 → byte_ends s at b ≡ Ok (suc at, b)
unfolding byte_ends
ends_reads s at b e = rw (eq-eqb (get_or s at 0) 0x27 e, add-one at)

-- and nowhere else
ends_read : (s : List ℕ) (at b n c : ℕ) → byte_ends s at b ≡ Ok (n, c) → (get_or s at 0 ≡ 0x27) × (n ≡ at + 1) × (b ≡ c)
unfolding byte_ends
ends_read s at b n c =
    cond_cases (λ (a : Told (ℕ × ℕ)). a ≡ Ok (n, c) → (get_or s at 0 ≡ 0x27) × (n ≡ at + 1) × (b ≡ c)) (eqb (get_or s at 0) 0x27) _ _
    (λ q e. let p : ◌≡◌ {A = ℕ × ℕ} (at + 1, b) (n, c) = cc in (eqb-true (get_or s at 0) 0x27 q, sym (ap (λ (x : ℕ × ℕ). x.0) p), ap (λ (x : ℕ × ℕ). x.1) p))
    (λ q e. let z : ◌≡◌ {A = ℕ} 0 1 = cc in absurd (omega arith))

-- ---- what is read stands there

-- what is to be shown of an answer over s
abbrev Stands : List ℕ → Told (ℕ × ℕ) → Type 0
Stands s a = (n b : ℕ) → a ≡ Ok (n, b) → (n ≤ length s) × ByteAt s b (drop n s)

-- of a refusal nothing is to be shown
refused_stands : (s : List ℕ) (a : Told (ℕ × ℕ)) (r : Refusal) → a ≡ Err r → Stands s a
refused_stands s a r e n b f = let z : ◌≡◌ {A = ℕ} 0 1 = cc in absurd (omega arith)

-- a byte that stands for itself, and the closing quote
plain_stands : (a : ℕ) (w : List ℕ) → a < 0x80 → (a ≡ 0x5C → ⊥) → Stands (0x62 ∷ 0x27 ∷ a ∷ w) (byte_ends (0x62 ∷ 0x27 ∷ a ∷ w) 3 a)
plain_stands a w h ne n b e =
    let q = ends_read (0x62 ∷ 0x27 ∷ a ∷ w) 3 a n b e in
    let l = stands w 0 0x27 (omega arith) q.0 in
    let i : 4 ≡ n = omega (arith, q.1) in
    let z : ByteAt (0x62 ∷ 0x27 ∷ a ∷ w) a (drop 1 w) = subst (λ (x : List ℕ). ByteAt (0x62 ∷ 0x27 ∷ a ∷ x) a (drop 1 w)) (sym (begins w 0 0x27 (omega arith) q.0)) (itself (omega arith) ne) in
    (omega arith, subst (λ (x : ℕ). ByteAt (0x62 ∷ 0x27 ∷ a ∷ w) b (drop x (0x62 ∷ 0x27 ∷ a ∷ w))) i (subst (λ (x : ℕ). ByteAt (0x62 ∷ 0x27 ∷ a ∷ w) x (drop 1 w)) q.2 z))

-- an escape that means a byte, and the closing quote
escape_stands : (w : List ℕ) (a k : ℕ) → escape_of Bytes w ≡ Ascii a k → Stands (0x62 ∷ 0x27 ∷ 0x5C ∷ w) (byte_ends (0x62 ∷ 0x27 ∷ 0x5C ∷ w) (3 + k) a)
escape_stands w a k h n b e =
    let three : 3 + k ≡ suc (suc (suc k)) = omega arith in
    let q = ends_read (0x62 ∷ 0x27 ∷ 0x5C ∷ w) (suc (suc (suc k))) a n b (rw three at e) in
    let f = (escape_exactly Bytes w (byte a) k).0 h in
    let i : suc (suc (suc (k + 1))) ≡ n = omega (arith, q.1) in
    let l = stands w k 0x27 (omega arith) q.0 in
    let z : ByteAt (0x62 ∷ 0x27 ∷ 0x5C ∷ w) a (drop (k + 1) w) = escaped (subst (Escape Bytes w (byte a)) (begins w k 0x27 (omega arith) q.0) f.1) in
    (omega arith, subst (λ (x : ℕ). ByteAt (0x62 ∷ 0x27 ∷ 0x5C ∷ w) b (drop x (0x62 ∷ 0x27 ∷ 0x5C ∷ w))) i (subst (λ (x : ℕ). ByteAt (0x62 ∷ 0x27 ∷ 0x5C ∷ w) x (drop (k + 1) w)) q.2 z))

-- the same by what the reader of escapes says
by-escape : (w : List ℕ) (a : EscapeAnswer) → escape_of Bytes w ≡ a → Stands (0x62 ∷ 0x27 ∷ 0x5C ∷ w) (by_byte_escape (0x62 ∷ 0x27 ∷ 0x5C ∷ w) a)
by-escape w (Ascii a k) e n b f = escape_stands w a k e n b f
by-escape w (Utf8 d k) e n b f = let z : ◌≡◌ {A = ℕ} 0 1 = cc in absurd (omega arith)
by-escape w (Refused r) e n b f = let z : ◌≡◌ {A = ℕ} 0 1 = cc in absurd (omega arith)

-- behind `b'`, where a byte is known to be there
of_three : (a : ℕ) (w : List ℕ) → Stands (0x62 ∷ 0x27 ∷ a ∷ w) (byte_of (0x62 ∷ 0x27 ∷ a ∷ w))
unfolding byte_of
of_three a w =
    rw (ne_eqb (suc (suc (suc (length w)))) 2 (λ i. omega arith))
    (either (bool_cases (eqb a 0x5C))
    (λ q. rw (eqb-true a 0x5C q) (by-escape w (escape_of Bytes w) refl))
    (λ q. rw q (cond_cases (Stands (0x62 ∷ 0x27 ∷ a ∷ w)) (ltb a 0x80) _ _
    (λ t. plain_stands a w (ltb-true a 0x80 t) (eqb-false a 0x5C q))
    (λ t. refused_stands (0x62 ∷ 0x27 ∷ a ∷ w) _ _ refl))))

-- behind `b'`
opened : (w : List ℕ) → Stands (0x62 ∷ 0x27 ∷ w) (byte_of (0x62 ∷ 0x27 ∷ w))
unfolding byte_of
opened [] = refused_stands (0x62 ∷ 0x27 ∷ []) (byte_of (0x62 ∷ 0x27 ∷ [])) (eof 2) refl
opened (a ∷ w) = of_three a w

-- no byte literal begins otherwise
unopened : (x y : ℕ) (w : List ℕ) → (eqb x 0x62 && eqb y 0x27) ≡ false → byte_of (x ∷ y ∷ w) ≡ Err (expected_byte_literal 0)
unfolding byte_of
unopened x y w e = rw e

-- what is read is a byte literal
pub byte_stands : (s : List ℕ) → Stands s (byte_of s)
byte_stands [] = refused_stands [] (byte_of []) (expected_byte_literal 0) (byte_short [] (omega arith))
byte_stands (x ∷ []) = refused_stands (x ∷ []) (byte_of (x ∷ [])) (expected_byte_literal 0) (byte_short (x ∷ []) (omega arith))
byte_stands (x ∷ y ∷ w) =
    either (bool_cases (eqb x 0x62 && eqb y 0x27))
    (λ p. let q = and_true (eqb x 0x62) (eqb y 0x27) p in rw (eqb-true x 0x62 q.0, eqb-true y 0x27 q.1) (opened w))
    (λ p. refused_stands (x ∷ y ∷ w) (byte_of (x ∷ y ∷ w)) (expected_byte_literal 0) (unopened x y w p))

-- ---- the other way round

-- a byte that stands for itself is read
plain_reads : (b : ℕ) (t : List ℕ) → b < 0x80 → (b ≡ 0x5C → ⊥) → byte_of (0x62 ∷ 0x27 ∷ b ∷ 0x27 ∷ t) ≡ Ok (4, b)
unfolding byte_of
plain_reads b t h ne =
    simp (ne_eqb (suc (suc (suc (suc (length t))))) 2 (λ i. omega arith), ne_eqb b 0x5C ne, lt-ltb b 0x80 h) (ends_reads (0x62 ∷ 0x27 ∷ b ∷ 0x27 ∷ t) 3 b refl)

-- and so is an escape that means a byte
escape_reads_byte : (w : List ℕ) (b k : ℕ) → escape_of Bytes w ≡ Ascii b k → get_or w k 0 ≡ 0x27 → byte_of (0x62 ∷ 0x27 ∷ 0x5C ∷ w) ≡ Ok (suc (suc (suc (suc k))), b)
unfolding byte_of
escape_reads_byte w b k a g =
    let three : 3 + k ≡ suc (suc (suc k)) = omega arith in
    rw (ne_eqb (suc (suc (suc (length w)))) 2 (λ i. omega arith), a, three) (ends_reads (0x62 ∷ 0x27 ∷ 0x5C ∷ w) (suc (suc (suc k))) b g)

-- a byte literal is read, with its length and its byte
pub byte_reads : {s t : List ℕ} {b : ℕ} → ByteAt s b t → (n : ℕ) × (n ≤ length s) × (t ≡ drop n s) × (byte_of s ≡ Ok (n, b))
byte_reads (itself {b} {t} h ne) = (4, omega arith, refl, plain_reads b t (omega arith) ne)
byte_reads (escaped {b} {s} {t} x) =
    let r = escape_reads x in
    let k = r.0 in
    let g : get_or s k 0 ≡ 0x27 = sym (head_at s k) ∙ ap (λ (l : List ℕ). get_or l 0 0) (sym r.2) in
    let l = stands s k 0x27 (omega arith) g in
    (suc (suc (suc (suc k))), omega arith, ap (drop 1) r.2 ∙ drop-drop 1 k s ∙ ap (λ (i : ℕ). drop i s) (add-one k), escape_reads_byte s b k r.3 g)

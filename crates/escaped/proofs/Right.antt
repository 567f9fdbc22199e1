-- What the reader of escapes accepts is an escape, and what it refuses is wrong, or the text ends within it: `right`. Assumes nothing.
use Prim.Native.Nat.{ℕ, suc, ◌+◌, ◌*◌, ◌<◌}
use native.Mathlib.Omega.{arith}
use mathlib.Core.List.{List, [], ◌∷◌, ◌++◌, append-nil}
use mathlib.Core.Logic.{inl}
use mathlib.Core.Path.{◌≡◌, ◌∙◌, ap, refl, subst, sym}
use lib.Dec.{eqb, ltb}
use lib.ListN.{drop, length, length-drop}
use lib.Seq.{drop-append-add}
use borrow.Author.Tests.{eqb-false, eqb-true, ltb-false, ltb-true}
use Rattle.escapes.specs.Escapes.{digits_of, escape_of, hex_by, hex_escape, more_bytes, simple_of, two_digits, unicode_escape, with_byte}
use Rattle.escapes.specs.declared.answers.EscapeAnswer.{EscapeAnswer}
use Rattle.escapes.specs.declared.answers.EscapeAnswer.TheVariants.{Ascii, Refused, Utf8}
use Rattle.escapes.specs.declared.answers.Mode.{Mode}
use Rattle.escapes.specs.declared.answers.Mode.TheVariants.{Bytes, Char, Str}
use Rattle.escaped.proofs.Braces.{Digits, digits_view}
use Rattle.escaped.proofs.Letters.{no_letter, simple_letter}
use Rattle.escaped.proofs.Pairs.{Lacks, Pair, two_view}
use Rattle.escaped.proofs.Runs.{bytes_view, written_length}
use Rattle.escaped.proofs.Wholes.{lone}
use Rattle.escaped.specs.Escape.{Escape, Hex, Written}
use Rattle.escaped.specs.Escape.Escape.{letter, any_byte, one_byte, bytes, unicode}
use Rattle.escaped.specs.Escape.Meant.{byte, point}
use Rattle.escaped.specs.Wrong.{Ends, Taken, Wrong}
use Rattle.escaped.specs.Wrong.Ends.{nothing, u_ends, x_ends}
use Rattle.escaped.specs.Wrong.Taken.{first, next}
use Rattle.escaped.specs.Wrong.Wrong.{high, no_brace, no_digits, no_scalar, not_closed, u_digit, x_digit}
use Rattle.text.proofs.Choices.{cond_cases}
use Rattle.text.proofs.Utf8Agree.{encode_1}
use Rattle.text.specs.Refusals.{eof, invalid_escape}
use Rattle.text.specs.Utf8.{Scalar, char_len, encode}
use Rattle.text.specs.declared.reason.EscapeReason.{EscapeReason}
use Rattle.text.specs.declared.refusal.Refusal.{Refusal}
use Rattle.escaped.proofs.Braces as d
use Rattle.escaped.proofs.Pairs as p
use Rattle.escaped.proofs.Runs as r
use Rattle.escaped.specs.Escape as spec
use Rattle.escaped.specs.Wrong as wrong

-- a refusal is that of a wrong escape, or the text ends within it
pub data Refuses (m : Mode) (s : List ℕ) : Refusal → Type 0 where
  refuses : {why : EscapeReason} {q : ℕ} (p : ℕ) → Wrong m s why q → p ≡ q → Refuses m s (invalid_escape why p)
  ended : (p : ℕ) → Ends m s → p ≡ length s → Refuses m s (eof p)

-- the answer is an escape that ends at its length, or such a refusal
abbrev pub Right : Mode → List ℕ → EscapeAnswer → Type 0
Right m s (Ascii b k) = Escape m s (byte b) (drop k s)
Right m s (Utf8 c k) = Escape m s (point c) (drop k s)
Right m s (Refused i) = Refuses m s i

-- ---- `\x`

-- ASCII is scalar values
pub ascii_scalar : (b : ℕ) → b < 0x80 → Scalar b
ascii_scalar b h = (omega arith, inl (omega arith))

-- from behind the x of a `\x` that is taken, the rest reaches to the end
pub taken_place : {m : Mode} {at : ℕ} {s t : List ℕ} → Taken m s at t → at + length t ≡ length s
taken_place first = omega arith
taken_place (next {bs} {s} {t} w l n) = let r = written_length w in omega (arith, r.0, ap length r.1, length-drop (4 * length bs) (0x5C ∷ s))

-- such a `\x` that lacks a digit
lacks_right : (m : Mode) (at : ℕ) (s t : List ℕ) (i : Refusal) → Taken m s at t → Lacks at t i → Refuses m s i
lacks_right m at s t i k (p.Lacks.ended q x l e) = ended q (x_ends k x l) (omega (arith, taken_place k))
lacks_right m at s t i k (p.Lacks.other q ds b u x l n e) = refuses q (x_digit b u k x l n) e

-- the bytes behind a first one, in a string
run_right : (h l b : ℕ) (u : List ℕ) (a : EscapeAnswer) → Hex 0 (h ∷ l ∷ []) b → r.Bytes 3 (b ∷ []) 3 u a → Right Str (0x78 ∷ h ∷ l ∷ u) a
run_right h l b u a x (r.Bytes.read {c} {p} cs t w sc e q) =
    let whole : Written (encode c) (0x5C ∷ 0x78 ∷ h ∷ l ∷ u) t = subst (λ (i : List ℕ). Written i (0x5C ∷ 0x78 ∷ h ∷ l ∷ u) t) (sym e) (spec.Written.more x w) in
    let far : suc (suc (suc (4 * length cs))) ≡ p = omega arith in
    subst (Escape Str (0x78 ∷ h ∷ l ∷ u) (point c)) ((written_length w).1 ∙ ap (λ (k : ℕ). drop k (0x78 ∷ h ∷ l ∷ u)) far) (bytes sc whole)
run_right h l b u a x (r.Bytes.lacks {p} {r = i} cs t w k n q z) =
    let far : p ≡ 4 * length (b ∷ cs) + 1 = omega arith in
    lacks_right Str (4 * length (b ∷ cs) + 1) (0x78 ∷ h ∷ l ∷ u) t i (next (spec.Written.more x w) (omega arith) n) (subst (λ (j : ℕ). Lacks j t i) far z)
run_right h l b u a x (r.Bytes.other p cs t w k n o q) =
    refuses p (wrong.Wrong.bytes (spec.Written.more x w) (omega arith) (omega arith) n (λ i. o (omega arith))) (omega arith)

-- a first byte, in each mode
by_right : (m : Mode) (h l b : ℕ) (u : List ℕ) → Hex 0 (h ∷ l ∷ []) b → Right m (0x78 ∷ h ∷ l ∷ u) (hex_by m u b 3)
by_right Str h l b u x =
    cond_cases (Right Str (0x78 ∷ h ∷ l ∷ u)) (ltb b 0x80) _ _
    (λ i. let k = ltb-true b 0x80 i in
    bytes (ascii_scalar b k) (subst (λ (j : List ℕ). Written j (0x5C ∷ 0x78 ∷ h ∷ l ∷ u) u) (sym (encode_1 b k)) (spec.Written.more x spec.Written.none)))
    (λ i. run_right h l b u (more_bytes 3 (b ∷ []) 3 u) x (bytes_view 3 3 (b ∷ []) u (lone b (ltb-false b 0x80 i))))
by_right Char h l b u x =
    cond_cases (Right Char (0x78 ∷ h ∷ l ∷ u)) (ltb b 0x80) _ _ (λ i. one_byte x (omega (arith, ltb-true b 0x80 i)))
    (λ i. refuses 3 (high x (ltb-false b 0x80 i)) refl)
by_right Bytes h l b u x = any_byte x

-- by what the reader of two digits answers
pair_right : (m : Mode) (s : List ℕ) (a : EscapeAnswer) → Pair 1 s a → Right m (0x78 ∷ s) (with_byte a (hex_by m (drop 2 s)))
pair_right m s a (p.Pair.read {h} {l} {b} {u} q x) =
    subst (λ (i : List ℕ). Right m (0x78 ∷ i) (hex_by m (drop 2 i) b 3)) (sym q) (by_right m h l b u x)
pair_right m s a (p.Pair.lacks {r = i} k) = lacks_right m 1 (0x78 ∷ s) s i first k

-- from behind the `x`
hex_right : (m : Mode) (s : List ℕ) → Right m (0x78 ∷ s) (hex_escape m 1 s)
unfolding hex_escape
hex_right m s = pair_right m s (two_digits 1 s) (two_view 1 s)

-- ---- `\u{}`

-- from behind the brace: what stands behind the digits
stop_right : (m : Mode) (k c p : ℕ) (ds u : List ℕ) (a : EscapeAnswer) → Hex 0 ds c → 6 ≡ length ds + k → p ≡ 2 + length ds → d.Stop k c p u a
    → Right m (0x75 ∷ 0x7B ∷ (ds ++ u)) a
stop_right m k c p ds u a x e f (d.Stop.closed {t} n sc) =
    let far : suc (suc (length ds + 1)) ≡ p + 1 = omega arith in
    subst (Escape m (0x75 ∷ 0x7B ∷ (ds ++ 0x7D ∷ t)) (point c))
    (sym (drop-append-add ds (0x7D ∷ t) 1) ∙ ap (λ (i : ℕ). drop i (0x75 ∷ 0x7B ∷ (ds ++ 0x7D ∷ t))) far)
    (unicode x (omega arith) (omega arith) sc)
stop_right m k c p ds u a x e f (d.Stop.no_scalar {t} n sc) = refuses (p + 1) (no_scalar t x (omega arith) (omega arith) sc) (omega arith)
stop_right m k c p ds u a spec.Hex.none e f (d.Stop.no_digits i) = refuses p no_digits (omega arith)
stop_right m k c p ds u a (spec.Hex.more x y) e f (d.Stop.no_digits i) = absurd (omega arith)
stop_right m k c p ds u a x e f (d.Stop.no_digit b t h n i) = refuses (p + char_len (b ∷ t)) (u_digit b t x (omega arith) n i) (omega arith)
stop_right m k c p ds u a x e f (d.Stop.not_closed t i n) = refuses p (not_closed t x (omega arith) n) (omega arith)
stop_right m k c p ds u a x e f (d.Stop.ended h) = rw (append-nil ds) (ended p (u_ends x (omega arith)) (omega arith))

-- and the digits in front of it
digits_right : (m : Mode) (s : List ℕ) (a : EscapeAnswer) → Digits 6 0 2 s a → Right m (0x75 ∷ 0x7B ∷ s) a
digits_right m s a (d.Digits.digits {c} k p ds u x e f z) = stop_right m k c p ds u a x e f z

-- from behind the `u`
unicode_right : (m : Mode) (s : List ℕ) → Right m (0x75 ∷ s) (unicode_escape 1 s)
unfolding unicode_escape
unicode_right m [] = refuses 1 (no_brace [] (λ u e. omega (arith, ap length e))) refl
unicode_right m (b ∷ s) =
    cond_cases (Right m (0x75 ∷ b ∷ s)) (eqb b 0x7B) _ _
    (λ i. subst (λ (k : ℕ). Right m (0x75 ∷ k ∷ s) (digits_of 6 0 2 s)) (sym (eqb-true b 0x7B i)) (digits_right m s (digits_of 6 0 2 s) (digits_view 6 0 2 s)))
    (λ i. refuses 1 (no_brace (b ∷ s) (λ u e. let q : b ≡ 0x7B = cc in eqb-false b 0x7B i q)) refl)

-- ---- an escape

-- what the reader accepts is an escape of that meaning and length, and what it refuses is wrong so, or ends
pub right : (m : Mode) (s : List ℕ) → Right m s (escape_of m s)
unfolding escape_of
right m [] = ended 0 nothing refl
right m (b ∷ s) =
    cond_cases (Right m (b ∷ s)) (ltb (simple_of b) 256) _ _
    (λ i. letter (simple_letter b (ltb-true (simple_of b) 256 i)))
    (λ n1. cond_cases (Right m (b ∷ s)) (eqb b 0x78) _ _
    (λ i. subst (λ (k : ℕ). Right m (k ∷ s) (hex_escape m 1 s)) (sym (eqb-true b 0x78 i)) (hex_right m s))
    (λ n2. cond_cases (Right m (b ∷ s)) (eqb b 0x75) _ _
    (λ i. subst (λ (k : ℕ). Right m (k ∷ s) (unicode_escape 1 s)) (sym (eqb-true b 0x75 i)) (unicode_right m s))
    (λ n3. refuses (char_len (b ∷ s)) (wrong.Wrong.letter b s (no_letter b (ltb-false (simple_of b) 256 n1)) (eqb-false b 0x78 n2) (eqb-false b 0x75 n3)) refl)))

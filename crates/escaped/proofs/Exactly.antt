-- The reader of escapes accepts exactly what specs/Escape.antt holds of, with that meaning and that length.
--     escape-reads      an escape is read, with its meaning and its length
--     escape-exactly    both ways
--     escape-refused    what is refused is no escape
--     escape-one        an escape means one thing, and ends at one place
-- Assumes nothing.
use Prim.Native.Nat.{ℕ, suc, ◌+◌, ◌-◌, ◌*◌, ◌≤◌, ◌<◌}
use native.Mathlib.Omega.{arith}
use mathlib.Core.List.{List, [], ◌∷◌, ◌++◌}
use mathlib.Core.Logic.{◌↔◌}
use mathlib.Core.Path.{◌≡◌, ◌∙◌, ap, refl, subst, sym}
use lib.ListN.{drop, length, length-append, length-drop}
use lib.Seq.{drop-append-add}
use borrow.Author.Tests.{le-ltb, lt-ltb}
use Rattle.escapes.proofs.Bounded.{Bounded, bounded}
use Rattle.escapes.specs.Escapes.{escape_of, hex_by, hex_escape, simple_of, unicode_escape, with_byte}
use Rattle.escapes.specs.declared.answers.EscapeAnswer.{EscapeAnswer}
use Rattle.escapes.specs.declared.answers.EscapeAnswer.TheVariants.{Ascii, Refused, Utf8}
use Rattle.escapes.specs.declared.answers.Mode.{Mode}
use Rattle.escapes.specs.declared.answers.Mode.TheVariants.{Bytes, Char, Str}
use Rattle.escaped.proofs.Braces.{Stop, digits_read}
use Rattle.escaped.proofs.Braces.Stop.{closed}
use Rattle.escaped.proofs.Letters.{letter_byte, letter_simple}
use Rattle.escaped.proofs.Pairs.{two_reads}
use Rattle.escaped.proofs.Right.{Right, ascii_scalar, right}
use Rattle.escaped.proofs.Runs.{bytes_read, written_length}
use Rattle.escaped.proofs.Wholes.{encode_back, encode_four, encode_some, encode_wide, lone, part}
use Rattle.escaped.specs.Escape.{Escape, Hex, Letter, Meant, Says, Written}
use Rattle.escaped.specs.Escape.Escape.{letter, any_byte, one_byte, bytes, unicode}
use Rattle.escaped.specs.Escape.Meant.{byte, point}
use Rattle.text.proofs.Choices.{either, lt_or_le}
use Rattle.text.proofs.RunLaws.{run_le}
use Rattle.text.proofs.Utf8Laws.{char_len_ascii}
use Rattle.text.proofs.Utf8Agree.{encode_1}
use Rattle.text.specs.Runs.{ascii}
use Rattle.text.specs.Utf8.{Scalar, char_len, code_of, encode}
use Rattle.text.specs.declared.refusal.Refusal.{Refusal}
use Rattle.escaped.specs.Escape as spec

-- ---- an escape is read

-- what a `\x` comes to, by its first byte
pub hex_is : (m : Mode) (h l b : ℕ) (t : List ℕ) → Hex 0 (h ∷ l ∷ []) b → escape_of m (0x78 ∷ h ∷ l ∷ t) ≡ hex_by m t b 3
unfolding escape_of simple_of hex_escape
hex_is m h l b t x = ap (λ (a : EscapeAnswer). with_byte a (hex_by m t)) (two_reads 1 h l b t x)

-- what a `\u{}` comes to, by what stands behind its digits
pub unicode_is : (m : Mode) (k c : ℕ) (ds t : List ℕ) (a : EscapeAnswer) → Hex 0 ds c → 6 ≡ length ds + k → Stop k c (2 + length ds) t a
    → escape_of m (0x75 ∷ 0x7B ∷ (ds ++ t)) ≡ a
unfolding escape_of simple_of unicode_escape
unicode_is m k c ds t a x e z = digits_read x 6 k 2 t a e z

-- a character of one byte, in a string
one_is : (c b : ℕ) (t : List ℕ) → Scalar c → encode c ≡ b ∷ [] → hex_by Str t b 3 ≡ Utf8 c 3
one_is c b t sc e =
    let w : char_len (b ∷ []) ≡ 1 = ap char_len (sym e) ∙ encode_wide c sc ∙ ap length e in
    let h : b < 0x80 = either (lt_or_le b 0x80) (λ k. k) (λ k. absurd (omega (arith, lone b k))) in
    let f : encode b ≡ encode c = encode_1 b h ∙ sym e in
    let q : b ≡ c = sym (encode_back b (ascii_scalar b h)) ∙ ap code_of f ∙ encode_back c sc in
    rw (lt-ltb b 0x80 h, q)

-- and of more
more_is : (c b x : ℕ) (cs u t : List ℕ) → Scalar c → encode c ≡ b ∷ x ∷ cs → Written (x ∷ cs) u t → hex_by Str u b 3 ≡ Utf8 c (3 + 4 * length (x ∷ cs))
more_is c b x cs u t sc e w =
    let z : char_len (b ∷ []) ≡ 0 = part c (b ∷ []) x cs sc e in
    let h : 0x80 ≤ b = either (lt_or_le b 0x80) (λ k. absurd (omega (arith, char_len_ascii (b ∷ []) (omega arith) k))) (λ k. k) in
    rw (le-ltb b 0x80 h) (bytes_read w c 3 3 (b ∷ []) sc e (omega arith) (omega (arith, encode_four c, ap length e)))

-- what a first byte and those behind it come to, in a string
run_is : {cs u t : List ℕ} → Written cs u t → (c b : ℕ) → Scalar c → encode c ≡ b ∷ cs → hex_by Str u b 3 ≡ Utf8 c (3 + 4 * length cs)
run_is (spec.Written.none {t}) c b sc q = one_is c b t sc q
run_is (spec.Written.more {h} {l} {b = x} {bs} {s} {t} y w) c b sc q = more_is c b x bs (0x5C ∷ 0x78 ∷ h ∷ l ∷ s) t sc q (spec.Written.more y w)

-- the bytes of a character, in a string
bytes_reads : {cs i t : List ℕ} → Written cs i t → (c : ℕ) (s : List ℕ) → Scalar c → encode c ≡ cs → i ≡ 0x5C ∷ s → (k : ℕ) × (k ≤ length s) × (t ≡ drop k s) × (escape_of Str s ≡ Utf8 c k)
bytes_reads spec.Written.none c s sc f g = absurd (omega (arith, encode_some c sc, ap length f))
bytes_reads (spec.Written.more {h} {l} {b} {bs} {s = u} {t} x w) c s sc f g =
    let q : 0x78 ∷ h ∷ l ∷ u ≡ s = cc in
    let r = written_length w in
    let k = suc (suc (suc (4 * length bs))) in
    let far : 3 + 4 * length bs ≡ k = omega arith in (
      k,
      omega (arith, r.0, ap length q),
      r.1 ∙ ap (drop k) q,
      ap (escape_of Str) (sym q) ∙ hex_is Str h l b u x ∙ run_is w c b sc f ∙ ap (Utf8 c) far,
    )

-- what a letter comes to
letter_is : (m : Mode) (a b : ℕ) (t : List ℕ) → Letter a b → escape_of m (a ∷ t) ≡ Ascii b 1
unfolding escape_of
letter_is m a b t x = rw (letter_simple x, lt-ltb b 256 (letter_byte x))

-- an escape is read, with its meaning and its length
pub escape_reads : {m : Mode} {s : List ℕ} {v : Meant} {t : List ℕ} → Escape m s v t → (n : ℕ) × (n ≤ length s) × (t ≡ drop n s) × Says (escape_of m s) v n
escape_reads (letter {m} {a} {b} {t} x) = (1, omega arith, refl, letter_is m a b t x)
escape_reads (any_byte {h} {l} {b} {t} x) = (3, omega arith, refl, hex_is Bytes h l b t x)
escape_reads (one_byte {h} {l} {c} {t} x k) = (3, omega arith, refl, hex_is Char h l c t x ∙ rw (lt-ltb c 0x80 (omega arith)))
escape_reads (bytes {c} {s} sc w) = bytes_reads w c s sc refl refl
escape_reads (unicode {m} {c} {ds} {t} x l h sc) =
    let far : 2 + length ds + 1 ≡ suc (suc (length ds + 1)) = omega arith in (
      suc (suc (length ds + 1)),
      omega (arith, length-append ds (0x7D ∷ t)),
      sym (drop-append-add ds (0x7D ∷ t) 1),
      unicode_is m (6 - length ds) c ds (0x7D ∷ t) (Utf8 c (2 + length ds + 1)) x (omega arith) (closed (omega arith) sc) ∙ ap (Utf8 c) far,
    )

-- ---- both ways

-- what the answer says stands there, within the part
stands : (m : Mode) (s : List ℕ) (a : EscapeAnswer) (v : Meant) (k : ℕ) → Bounded s a → Right m s a → Says a v k → (k ≤ length s) × Escape m s v (drop k s)
stands m s a (byte b) k h r e = let q = subst (λ (i : EscapeAnswer). Bounded s i × Right m s i) e (h, r) in (omega (arith, q.0, run_le ascii s), q.1)
stands m s a (point c) k h r e = let q = subst (λ (i : EscapeAnswer). Bounded s i × Right m s i) e (h, r) in (omega (arith, q.0, run_le ascii s), q.1)

-- the reader says that n bytes mean v exactly where an escape of n bytes stands that means v
pub escape_exactly : (m : Mode) (s : List ℕ) (v : Meant) (n : ℕ) → Says (escape_of m s) v n ↔ ((n ≤ length s) × Escape m s v (drop n s))
escape_exactly m s v n = (
  λ e. stands m s (escape_of m s) v n (bounded m s) (right m s) e,
  λ h. let r = escape_reads h.1 in
      let q : r.0 ≡ n = omega (arith, r.1, h.0, ap length r.2, length-drop n s, length-drop r.0 s) in
      subst (Says (escape_of m s) v) q r.3,
)

-- a refusal says nothing of a meaning
refused_says : (a : EscapeAnswer) (i : Refusal) (v : Meant) (k : ℕ) → a ≡ Refused i → Says a v k → ⊥
refused_says a i (byte b) k e f = let z : ◌≡◌ {A = ℕ} 0 1 = cc in omega arith
refused_says a i (point c) k e f = let z : ◌≡◌ {A = ℕ} 0 1 = cc in omega arith

-- what is refused is no escape
pub escape_refused : (m : Mode) (s : List ℕ) (r : Refusal) → escape_of m s ≡ Refused r → (v : Meant) (t : List ℕ) → Escape m s v t → ⊥
escape_refused m s r e v t x = let k = escape_reads x in refused_says (escape_of m s) r v k.0 e k.3

-- ---- an escape means one thing

-- an answer says one thing
says_one : (a : EscapeAnswer) (v w : Meant) (j k : ℕ) → Says a v j → Says a w k → (v ≡ w) × (j ≡ k)
says_one a (byte b) (byte c) j k e f = let q : b ≡ c = cc in let i : j ≡ k = cc in (ap byte q, i)
says_one a (byte b) (point c) j k e f = let z : ◌≡◌ {A = ℕ} 0 1 = cc in absurd (omega arith)
says_one a (point b) (byte c) j k e f = let z : ◌≡◌ {A = ℕ} 0 1 = cc in absurd (omega arith)
says_one a (point b) (point c) j k e f = let q : b ≡ c = cc in let i : j ≡ k = cc in (ap point q, i)

-- and so does an escape
pub escape_one : {m : Mode} {s : List ℕ} {v w : Meant} {t u : List ℕ} → Escape m s v t → Escape m s w u → (v ≡ w) × (t ≡ u)
escape_one {m} {s} {v} {w} x y =
    let j = escape_reads x in
    let k = escape_reads y in
    let q = says_one (escape_of m s) v w j.0 k.0 j.3 k.3 in
    (q.0, j.2 ∙ ap (λ (i : ℕ). drop i s) q.1 ∙ sym k.2)

-- Bytes that are each written as `\x` and two digits, as the reader takes them until they are a character (`more_bytes`). Assumes nothing.
use Prim.Native.Nat.{ℕ, zero, suc, ◌+◌, ◌*◌, ◌≤◌, ◌<◌}
use native.Mathlib.Omega.{arith}
use mathlib.Core.Bool.{cond}
use mathlib.Core.List.{List, [], ◌∷◌, ◌++◌, append-nil}
use mathlib.Core.Path.{◌≡◌, ◌∙◌, ap, refl, subst, sym}
use lib.Dec.{eqb}
use lib.ListN.{drop, length}
use lib.Seq.{append_snoc}
use borrow.Author.Tests.{eqb-false, eqb-true}
use Rattle.escapes.specs.Escapes.{more_bytes, next_byte, with_byte}
use Rattle.escapes.specs.declared.answers.EscapeAnswer.{EscapeAnswer}
use Rattle.escapes.specs.declared.answers.EscapeAnswer.TheVariants.{Refused, Utf8}
use Rattle.escapes.proofs.EscapeLaws.{more_done, more_part, more_refused, more_whole}
use Rattle.escaped.proofs.Pairs.{Lacks, Next, next_other, next_reads, next_view, two_lacks}
use Rattle.escaped.proofs.Wholes.{encode_back, encode_some, encode_wide, fewer, front_none, none_front, part, whole}
use Rattle.escaped.specs.Escape.{Hex, Written}
use Rattle.escaped.specs.Escape.Written.{none, more}
use Rattle.escaped.specs.Wrong.{NoFront, NotAt}
use Rattle.text.proofs.Choices.{cond_cases}
use Rattle.text.specs.Refusals.{invalid_escape}
use Rattle.text.specs.Utf8.{Scalar, char_len, code_of, encode}
use Rattle.text.specs.declared.reason.EscapeReason.TheVariants.{NotByteEscaped}
use Rattle.text.specs.declared.refusal.Refusal.{Refusal}
use Rattle.escaped.proofs.Pairs as p

-- ---- a run of bytes is read

-- where the byte was the last, they are the character
last_byte : (c left at : ℕ) (bs : List ℕ) (h l b : ℕ) (t : List ℕ) → Scalar c → encode c ≡ bs ++ b ∷ [] → Hex 0 (h ∷ l ∷ []) b
    → more_bytes (suc left) bs at (0x5C ∷ 0x78 ∷ h ∷ l ∷ t) ≡ Utf8 c (at + 4)
last_byte c left at bs h l b t sc e x =
    more_whole (suc left) bs at (0x5C ∷ 0x78 ∷ h ∷ l ∷ t) b (at + 4) (omega arith) (sym (next_reads at h l b t x))
    (λ z. omega (arith, encode_some c sc, encode_wide c sc, ap char_len e))
    ∙ ap (λ (k : ℕ). Utf8 k (at + 4)) (ap code_of (sym e) ∙ encode_back c sc)

-- where they are no character with this byte, more are taken
one_pass : (left at : ℕ) (bs : List ℕ) (h l b : ℕ) (t : List ℕ) → char_len (bs ++ b ∷ []) ≡ 0 → Hex 0 (h ∷ l ∷ []) b
    → more_bytes (suc left) bs at (0x5C ∷ 0x78 ∷ h ∷ l ∷ t) ≡ more_bytes left (bs ++ b ∷ []) (at + 4) t
one_pass left at bs h l b t z x =
    more_part (suc left) bs at (0x5C ∷ 0x78 ∷ h ∷ l ∷ t) b (at + 4) (omega arith) (sym (next_reads at h l b t x)) z
    ∙ ap (λ (k : ℕ). more_bytes k (bs ++ b ∷ []) (at + 4) t) (omega arith)

-- where more bytes follow, they are no character yet
first_byte : (c left at : ℕ) (bs : List ℕ) (h l b x : ℕ) (cs t : List ℕ) → Scalar c → encode c ≡ bs ++ b ∷ x ∷ cs → Hex 0 (h ∷ l ∷ []) b
    → more_bytes (suc left) bs at (0x5C ∷ 0x78 ∷ h ∷ l ∷ t) ≡ more_bytes left (bs ++ b ∷ []) (at + 4) t
first_byte c left at bs h l b x cs t sc e y = one_pass left at bs h l b t (part c (bs ++ b ∷ []) x cs sc (e ∙ sym (append_snoc bs b (x ∷ cs)))) y

-- the bytes of a character behind those in front are read, as many as they are
pub bytes_read : {cs s t : List ℕ} → Written cs s t → (c left at : ℕ) (bs : List ℕ) → Scalar c → encode c ≡ bs ++ cs → 0 < length cs → length cs ≤ left
    → more_bytes left bs at s ≡ Utf8 c (at + 4 * length cs)
bytes_read none c left at bs sc e h k = absurd (omega arith)
bytes_read (more x w) c zero at bs sc e h k = absurd (omega arith)
bytes_read (more {h = i} {l} {b} {s} x none) c (suc left) at bs sc e h k =
    last_byte c left at bs i l b s sc e x ∙ ap (Utf8 c) (omega arith)
bytes_read (more {h = i} {l} {b} {s} x (more {b = b'} {bs = cs} y w)) c (suc left) at bs sc e h k =
    first_byte c left at bs i l b b' cs s sc e x
    ∙ bytes_read (more y w) c left (at + 4) (bs ++ b ∷ []) sc (e ∙ sym (append_snoc bs b (b' ∷ cs))) (omega arith) (omega arith)
    ∙ ap (Utf8 c) (omega arith)

-- and as many bytes of text
pub written_length : {cs s t : List ℕ} → Written cs s t → (4 * length cs ≤ length s) × (t ≡ drop (4 * length cs) s)
written_length none = (omega arith, refl)
written_length (more {h} {l} {b} {bs} {s} {t} x w) =
    let r = written_length w in
    let four : suc (suc (suc (suc (4 * length bs)))) ≡ 4 * suc (length bs) = omega arith in
    (omega (arith, r.0), r.1 ∙ ap (λ (k : ℕ). drop k (0x5C ∷ 0x78 ∷ h ∷ l ∷ s)) four)

-- ---- a run that is no character is refused

-- the same bytes so far, at the same place
same_run : (j k : ℕ) (bs cs : List ℕ) (p q : ℕ) (t : List ℕ) → j ≡ k → bs ≡ cs → p ≡ q → more_bytes j bs p t ≡ more_bytes k cs q t
same_run j k bs cs p q t e f g = cc

-- bytes that are no character yet are passed
pub bytes_pass : {cs s t : List ℕ} → Written cs s t → (left k at : ℕ) (bs : List ℕ) → left ≡ length cs + k → NoFront (bs ++ cs)
    → more_bytes left bs at s ≡ more_bytes k (bs ++ cs) (at + 4 * length cs) t
bytes_pass (none {t}) left k at bs e n = same_run left k bs (bs ++ []) at _ t (omega arith) (sym (append-nil bs)) (omega arith)
bytes_pass (more x w) zero k at bs e n = absurd (omega arith)
bytes_pass (more {h = i} {l} {b} {bs = cs} {s} {t} x w) (suc left) k at bs e n =
    let m : NoFront ((bs ++ b ∷ []) ++ cs) = subst NoFront (sym (append_snoc bs b cs)) n in
    one_pass left at bs i l b s (front_none (bs ++ b ∷ []) (fewer (bs ++ b ∷ []) cs m)) x
    ∙ bytes_pass w left k (at + 4) (bs ++ b ∷ []) (omega arith) m
    ∙ same_run k k ((bs ++ b ∷ []) ++ cs) (bs ++ b ∷ cs) (at + 4 + 4 * length cs) _ t refl (append_snoc bs b cs) (omega arith)

-- and then no other may come, or none stands there
pub bytes_other : (left at : ℕ) (bs t : List ℕ) → (0 < left → NotAt (0x5C ∷ 0x78 ∷ []) t) → more_bytes left bs at t ≡ Refused (invalid_escape NotByteEscaped at)
bytes_other zero at bs t n = more_done bs at t
bytes_other (suc left) at bs t n = more_refused (suc left) bs at t _ (omega arith) (sym (next_other at t (n (omega arith))))

-- or one does that lacks a digit
pub bytes_lack : (left at : ℕ) (bs u : List ℕ) (r : Refusal) → 0 < left → Lacks (at + 2) u r → more_bytes left bs at (0x5C ∷ 0x78 ∷ u) ≡ Refused r
unfolding next_byte
bytes_lack left at bs u r h k = more_refused left bs at (0x5C ∷ 0x78 ∷ u) r h (sym (two_lacks k))

-- ---- what is read is a run of bytes

-- what the reader of further bytes may answer
pub data Bytes (left : ℕ) (bs : List ℕ) (at : ℕ) (s : List ℕ) : EscapeAnswer → Type 0 where
  read : {c p : ℕ} (cs t : List ℕ) → Written cs s t → Scalar c → encode c ≡ bs ++ cs → p ≡ at + 4 * length cs → Bytes left bs at s (Utf8 c p)
  lacks : {p : ℕ} {r : Refusal} (cs u : List ℕ) → Written cs s (0x5C ∷ 0x78 ∷ u) → length cs < left → NoFront (bs ++ cs) → p ≡ at + 4 * length cs + 2
      → Lacks p u r → Bytes left bs at s (Refused r)
  other : (p : ℕ) (cs t : List ℕ) → Written cs s t → length cs ≤ left → NoFront (bs ++ cs) → (length cs < left → NotAt (0x5C ∷ 0x78 ∷ []) t)
      → p ≡ at + 4 * length cs → Bytes left bs at s (Refused (invalid_escape NotByteEscaped p))

-- a byte more in front
one_more : (left : ℕ) (bs : List ℕ) (at h l b : ℕ) (s : List ℕ) (a : EscapeAnswer) → Hex 0 (h ∷ l ∷ []) b → Bytes left (bs ++ b ∷ []) (at + 4) s a
    → Bytes (suc left) bs at (0x5C ∷ 0x78 ∷ h ∷ l ∷ s) a
one_more left bs at h l b s a x (read {c} {p} cs t w sc e q) =
    read {p = p} (b ∷ cs) t (more x w) sc (e ∙ append_snoc bs b cs) (omega arith)
one_more left bs at h l b s a x (lacks {p} cs u w k n q z) =
    lacks {p = p} (b ∷ cs) u (more x w) (omega arith) (subst NoFront (append_snoc bs b cs) n) (omega arith) z
one_more left bs at h l b s a x (other p cs t w k n m q) =
    other p (b ∷ cs) t (more x w) (omega arith) (subst NoFront (append_snoc bs b cs) n) (λ i. m (omega arith)) (omega arith)

-- what one more byte comes to
abbrev after : ℕ → List ℕ → List ℕ → ℕ → ℕ → EscapeAnswer
after left bs s b p = cond (eqb (char_len (bs ++ b ∷ [])) 0) (more_bytes left (bs ++ b ∷ []) p (drop 4 s)) (Utf8 (code_of (bs ++ b ∷ [])) p)

-- no byte more is no character either
still : (bs : List ℕ) → char_len bs ≡ 0 → NoFront (bs ++ [])
still bs z = subst NoFront (sym (append-nil bs)) (none_front bs z)

-- by what the reader of the next byte answers
by_next : (left at : ℕ) (bs s : List ℕ) (a : EscapeAnswer) → char_len bs ≡ 0 → Next at s a
    → ((b p : ℕ) (u : List ℕ) → char_len (bs ++ b ∷ []) ≡ 0 → Bytes left (bs ++ b ∷ []) p u (more_bytes left (bs ++ b ∷ []) p u))
    → Bytes (suc left) bs at s (with_byte a (after left bs s))
by_next left at bs s a z (p.Next.read {h} {l} {b} {u} e x) rest =
    subst (λ (i : List ℕ). Bytes (suc left) bs at i (after left bs i b (at + 4))) (sym e)
    (cond_cases (Bytes (suc left) bs at (0x5C ∷ 0x78 ∷ h ∷ l ∷ u)) (eqb (char_len (bs ++ b ∷ [])) 0) _ _
    (λ i. one_more left bs at h l b u (more_bytes left (bs ++ b ∷ []) (at + 4) u) x (rest b (at + 4) u (eqb-true (char_len (bs ++ b ∷ [])) 0 i)))
    (λ i. let k = whole bs b z (eqb-false (char_len (bs ++ b ∷ [])) 0 i) in read {p = at + 4} (b ∷ []) u (more x none) k.0 k.1 (omega arith)))
by_next left at bs s a z (p.Next.lacks {u} {r} e k) rest =
    lacks {p = at + 2} [] u (subst (Written [] s) e none) (omega arith) (still bs z) (omega arith) k
by_next left at bs s a z (p.Next.other n) rest = other at [] s none (omega arith) (still bs z) (λ i. n) (omega arith)

-- what it answers is one of these, behind bytes that are no character yet
pub bytes_view : (left at : ℕ) (bs s : List ℕ) → char_len bs ≡ 0 → Bytes left bs at s (more_bytes left bs at s)
unfolding more_bytes
bytes_view zero at bs s z = other at [] s none (omega arith) (still bs z) (λ i. absurd (omega arith)) (omega arith)
bytes_view (suc left) at bs s z = by_next left at bs s (next_byte at s) z (next_view at s) (λ b p u i. bytes_view left p (bs ++ b ∷ []) u i)

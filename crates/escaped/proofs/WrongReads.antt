-- An escape that is wrong is refused with its reason at its place, and one within which the text ends with 6 at the end.
--     wrong-reads    13, by the constructors of `Wrong`
--     ends-reads     6, by those of `Ends`
-- Assumes nothing.
use Prim.Native.Nat.{ℕ, ◌+◌, ◌-◌, ◌*◌, ◌≤◌}
use native.Mathlib.Omega.{arith}
use mathlib.Core.List.{List, [], ◌∷◌, ◌++◌, append-nil}
use mathlib.Core.Path.{◌≡◌, ◌∙◌, ap, refl, subst, sym}
use lib.ListN.{length}
use borrow.Author.Tests.{le-ltb, ne_eqb}
use Rattle.escapes.proofs.EscapeLaws.{escape_end, hex_refused}
use Rattle.escapes.specs.Escapes.{escape_of, hex_by, more_bytes, simple_of, unicode_escape}
use Rattle.escapes.specs.declared.answers.EscapeAnswer.TheVariants.{Refused}
use Rattle.escapes.specs.declared.answers.Mode.{Mode}
use Rattle.escapes.specs.declared.answers.Mode.TheVariants.{Char, Str}
use Rattle.escaped.proofs.Exactly.{hex_is, unicode_is}
use Rattle.escaped.proofs.Letters.{simple_letter}
use Rattle.escaped.proofs.Pairs.{Lacks, same_place, two_lacks}
use Rattle.escaped.proofs.Right.{ascii_scalar, taken_place}
use Rattle.escaped.proofs.Runs.{bytes_lack, bytes_other, bytes_pass, written_length}
use Rattle.escaped.specs.Escape.{Letter, Written}
use Rattle.escaped.specs.Escape.Written.{none, more}
use Rattle.escaped.specs.Wrong.{Ends, NoFront, NotAt, Taken, Wrong}
use Rattle.escaped.specs.Wrong.Ends.{nothing, u_ends, x_ends}
use Rattle.escaped.specs.Wrong.Taken.{first, next}
use Rattle.escaped.specs.Wrong.Wrong.{bytes, high, letter, no_brace, no_digits, no_scalar, not_closed, u_digit, x_digit}
use Rattle.text.proofs.Choices.{either, lt_or_le}
use Rattle.text.proofs.Utf8Agree.{encode_1}
use Rattle.text.specs.Refusals.{eof, invalid_escape}
use Rattle.text.specs.Utf8.{char_len}
use Rattle.text.specs.declared.reason.EscapeReason.{EscapeReason}
use Rattle.text.specs.declared.reason.EscapeReason.TheVariants.{MissingOpenBrace, NoClosingBrace, NotACharacter, UnknownLetter}
use Rattle.text.specs.declared.refusal.Refusal.{Refusal}
use Rattle.escaped.proofs.Braces as d
use Rattle.escaped.proofs.Pairs as p
use Rattle.escaped.specs.Escape as spec

-- ---- `\x`

-- a first byte that is no character: more are taken
more_taken : (b : ℕ) (bs u : List ℕ) → NoFront (b ∷ bs) → hex_by Str u b 3 ≡ more_bytes 3 (b ∷ []) 3 u
more_taken b bs u n =
    let h : 0x80 ≤ b = either (lt_or_le b 0x80) (λ k. absurd (n b bs (ascii_scalar b k) (ap (λ (x : List ℕ). x ++ bs) (sym (encode_1 b k))))) (λ k. k) in
    rw (le-ltb b 0x80 h)

-- up to four bytes of a string that are no character: the reader stands behind them
run_passes : {bs i t : List ℕ} → Written bs i t → (s : List ℕ) → i ≡ 0x5C ∷ s → 1 ≤ length bs → length bs ≤ 4 → NoFront bs
    → escape_of Str s ≡ more_bytes (4 - length bs) bs (4 * length bs - 1) t
run_passes none s e l h n = absurd (omega arith)
run_passes (more {h = i} {l = j} {b} {bs} {s = u} {t} x w) s e l h n =
    let q : 0x78 ∷ i ∷ j ∷ u ≡ s = cc in
    ap (escape_of Str) (sym q) ∙ hex_is Str i j b u x ∙ more_taken b bs u n ∙ bytes_pass w 3 (4 - length (b ∷ bs)) 3 (b ∷ []) (omega arith) n
    ∙ ap (λ (k : ℕ). more_bytes (4 - length (b ∷ bs)) (b ∷ bs) k t) (omega arith)

-- the first `\x` lacks a digit
first_lacks : (m : Mode) (t : List ℕ) (r : Refusal) → Lacks 1 t r → escape_of m (0x78 ∷ t) ≡ Refused r
unfolding escape_of simple_of
first_lacks m t r k = hex_refused m 1 t r (sym (two_lacks k))

-- or another one does
next_lacks : (bs s t : List ℕ) (r : Refusal) → Written bs (0x5C ∷ s) (0x5C ∷ 0x78 ∷ t) → length bs ≤ 3 → NoFront bs → Lacks (4 * length bs + 1) t r
    → escape_of Str s ≡ Refused r
next_lacks [] s t r w l n k = let q : 0x78 ∷ t ≡ s = cc (written_length w).1 in ap (escape_of Str) (sym q) ∙ first_lacks Str t r k
next_lacks (b ∷ bs) s t r w l n k =
    let at = 4 * length (b ∷ bs) - 1 in
    let far : 4 * length (b ∷ bs) + 1 ≡ at + 2 = omega arith in
    run_passes w s refl (omega arith) (omega arith) n
    ∙ bytes_lack (4 - length (b ∷ bs)) at (b ∷ bs) t r (omega arith) (subst (λ (i : ℕ). Lacks i t r) far k)

-- whichever is taken
taken_lacks : {m : Mode} {at : ℕ} {s t : List ℕ} {r : Refusal} → Taken m s at t → Lacks at t r → escape_of m s ≡ Refused r
taken_lacks {r} (first {m} {t}) k = first_lacks m t r k
taken_lacks {r} (next {bs} {s} {t} w l n) k = next_lacks bs s t r w l n k

-- ---- letters and braces

-- a byte that is no letter
letter_refused : (m : Mode) (b : ℕ) (t : List ℕ) → ((v : ℕ) → Letter b v → ⊥) → (b ≡ 0x78 → ⊥) → (b ≡ 0x75 → ⊥)
    → escape_of m (b ∷ t) ≡ Refused (invalid_escape UnknownLetter (char_len (b ∷ t)))
unfolding escape_of
letter_refused m b t n i j =
    let h : 256 ≤ simple_of b = either (lt_or_le (simple_of b) 256) (λ k. absurd (n (simple_of b) (simple_letter b k))) (λ k. k) in
    rw (le-ltb (simple_of b) 256 h, ne_eqb b 0x78 i, ne_eqb b 0x75 j)

-- no brace behind the `u`
brace_refused : (m : Mode) (t : List ℕ) → NotAt (0x7B ∷ []) t → escape_of m (0x75 ∷ t) ≡ Refused (invalid_escape MissingOpenBrace 1)
unfolding escape_of simple_of unicode_escape
brace_refused m [] n = refl
brace_refused m (b ∷ t) n = rw (ne_eqb b 0x7B (λ e. n t (ap (λ (i : ℕ). i ∷ t) e)))

-- ---- an escape

-- a wrong one is refused for its reason, at its place
pub wrong_reads : {m : Mode} {s : List ℕ} {why : EscapeReason} {p : ℕ} → Wrong m s why p → escape_of m s ≡ Refused (invalid_escape why p)
wrong_reads (x_digit {p = at} {ds} b t k x l n) = taken_lacks k (p.Lacks.other (at + length ds + char_len (b ∷ t)) ds b t x l n refl)
wrong_reads (u_digit {m} {v} {ds} b t x l n i) = unicode_is m (6 - length ds) v ds (b ∷ t) _ x (omega arith) (d.Stop.no_digit b t (omega arith) n i)
wrong_reads (letter {m} b t n i j) = letter_refused m b t n i j
wrong_reads (high {h} {l} {c} {t} x k) = hex_is Char h l c t x ∙ rw (le-ltb c 0x80 k)
wrong_reads (bytes {bs} {s} {t} w l h n o) = run_passes w s refl l h n ∙ bytes_other (4 - length bs) (4 * length bs - 1) bs t (λ i. o (omega arith))
wrong_reads (no_brace {m} t n) = brace_refused m t n
wrong_reads (no_digits {m} {t}) = unicode_is m 6 0 [] (0x7D ∷ t) _ spec.Hex.none refl (d.Stop.no_digits refl)
wrong_reads (not_closed {m} {v} {ds} t x l n) =
    unicode_is m 0 v ds t _ x (omega arith) (d.Stop.not_closed t refl n) ∙ same_place (invalid_escape NoClosingBrace) (2 + length ds) 8 (omega arith)
wrong_reads (no_scalar {m} {v} {ds} t x l h n) =
    unicode_is m (6 - length ds) v ds (0x7D ∷ t) _ x (omega arith) (d.Stop.no_scalar (omega arith) n)
    ∙ same_place (invalid_escape NotACharacter) (2 + length ds + 1) (3 + length ds) (omega arith)

-- where the text ends within it, that is 6 at the end
pub ends_reads : {m : Mode} {s : List ℕ} → Ends m s → escape_of m s ≡ Refused (eof (length s))
ends_reads (nothing {m}) = escape_end m [] refl
ends_reads (x_ends {s} {ds} k x l) = taken_lacks k (p.Lacks.ended (length s) x l (omega (arith, taken_place k)))
ends_reads (u_ends {m} {v} {ds} x l) =
    ap (λ (i : List ℕ). escape_of m (0x75 ∷ 0x7B ∷ i)) (sym (append-nil ds))
    ∙ unicode_is m (6 - length ds) v ds [] _ x (omega arith) (d.Stop.ended (omega arith))
    ∙ same_place eof (2 + length ds) _ (omega arith)

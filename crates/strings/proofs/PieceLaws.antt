-- Laws of the pieces of a quoted string: their sizes, and the body piece by piece. Assumes nothing.
use Prim.Native.Nat.{◌-◌, ◌<◌, ◌≤◌, suc, zero, ℕ}
use native.Mathlib.Omega.{arith}
use mathlib.Core.Bool.{Bool, false, true}
use mathlib.Core.List.{List, [], ◌∷◌}
use mathlib.Core.Path.{◌∙◌, ◌≡◌, ap, refl, subst, sym}
use lib.Dec.{eqb, ltb}
use lib.ListN.{drop, length, take, get_or}
use borrow.Author.Tests.{eqb-true}
use Rattle.escapes.proofs.Bounded.{Bounded, bounded}
use Rattle.escapes.proofs.Decoded.{Decodes, decoded, top_of}
use Rattle.escapes.specs.Escapes.{escape_of}
use Rattle.escapes.specs.declared.answers.EscapeAnswer.{EscapeAnswer}
use Rattle.escapes.specs.declared.answers.EscapeAnswer.TheVariants.{Ascii, Utf8, Refused}
use Rattle.escapes.specs.declared.answers.Mode.{Mode}
use Rattle.strings.specs.Pieces.{behind_backslash, body_from, body_of, by_escape, by_piece, bytes_of, decoded_len, line_end, piece_of, plain, writable}
use Rattle.strings.specs.Pieces.Body.{next, unclosed}
use Rattle.strings.specs.declared.pieces.Decoded.{Decoded}
use Rattle.strings.specs.declared.pieces.Decoded.TheVariants.{Nothing}
use Rattle.strings.specs.declared.pieces.Decoded.TheVariants as decoded
use Rattle.strings.specs.declared.pieces.Piece.{Piece}
use Rattle.strings.specs.declared.pieces.Piece.TheVariants.{Backslash, Plain, Quote}
use Rattle.strings.specs.declared.pieces.Piece.TheVariants as pieces
use Rattle.text.proofs.Choices.{bool_cases, cond_cases, either}
use Rattle.text.proofs.RunLaws.{run_le}
use Rattle.text.proofs.Utf8Agree.{scalar_scalar}
use Rattle.text.specs.Classes.{continuation_blank}
use Rattle.text.specs.Runs.{ascii, run}
use Rattle.text.specs.Utf8.{Scalar, encode, encoded_len}

-- ---- an escape lies within its part

abbrev pub Fits : List ℕ → EscapeAnswer → Type 0
Fits s (Ascii b n) = n ≤ length s
Fits s (Utf8 c n) = (n ≤ length s) × Scalar c × (3 ≤ n)
Fits s (Refused r) = r.place ≤ length s

fits_by : (m : Mode) (s : List ℕ) (a : EscapeAnswer) → Bounded s a → Decodes (top_of m) a → Fits s a
fits_by m s (Ascii b n) h d = omega (arith, h.1, run_le ascii s)
fits_by m s (Utf8 c n) h d = (omega (arith, h.1, run_le ascii s), d, h.0)
fits_by m s (Refused r) h d = h

pub fits : (m : Mode) (s : List ℕ) (a : EscapeAnswer) → a ≡ escape_of m s → Fits s a
fits m s a e = subst (Fits s) (sym e) (fits_by m s (escape_of m s) (bounded m s) (decoded m s))

-- ---- the bytes of a scalar value

pub encode_length : (c : ℕ) → length (encode c) ≡ encoded_len c
unfolding encode encoded_len
encode_length c =
    either (bool_cases (ltb c 0x80)) (λ e. rw e)
    (λ e. either (bool_cases (ltb c 0x800)) (λ f. rw (e, f))
    (λ f. either (bool_cases (ltb c 0x10000)) (λ g. rw (e, f, g)) (λ g. rw (e, f, g))))

encoded_le : (c : ℕ) → encoded_len c ≤ 4
unfolding encoded_len
encoded_le c =
    cond_cases (λ (n : ℕ). n ≤ 4) (ltb c 0x80) _ _ (λ e. omega arith)
    (λ e. cond_cases (λ (n : ℕ). n ≤ 4) (ltb c 0x800) _ _ (λ f. omega arith)
    (λ f. cond_cases (λ (n : ℕ). n ≤ 4) (ltb c 0x10000) _ _ (λ g. omega arith) (λ g. omega arith)))

-- ---- a piece lies within its part

-- what is decoded can be written
abbrev pub Fine : Decoded → Type 0
Fine Nothing = Unit
Fine (decoded.Ascii b) = Unit
Fine (decoded.Utf8 c) = Scalar c

abbrev pub Sized : List ℕ → Piece → Type 0
Sized s Quote = (1 ≤ length s) × (get_or s 0 0 ≡ 0x22)
Sized s (Plain n) = (1 ≤ n) × (n ≤ length s)
Sized s (Backslash n d) = (1 ≤ n) × (n ≤ length s) × (decoded_len d ≤ n) × Fine d
Sized s (pieces.Refused r) = r.place ≤ length s

escape_sized : (b : ℕ) (s : List ℕ) (a : EscapeAnswer) → Fits s a → Sized (b ∷ s) (by_escape a)
unfolding decoded_len
escape_sized b s (Ascii x n) h = (omega arith, omega arith, omega arith, tt)
escape_sized b s (Utf8 c n) h = (omega arith, omega arith, omega (arith, encode_length c, encoded_le c), h.1)
escape_sized b s (Refused r) h = omega arith

pub behind_sized : (m : Mode) (b : ℕ) (s : List ℕ) → Sized (b ∷ s) (behind_backslash m s)
unfolding behind_backslash decoded_len
behind_sized m b s =
    cond_cases (Sized (b ∷ s)) (line_end s) _ _ (λ e. (omega arith, omega (arith, run_le continuation_blank s), omega arith, tt))
    (λ e. escape_sized b s (escape_of m s) (fits m s (escape_of m s) refl))

plain_true : (b : ℕ) → (eqb b 0x22 ≡ false) → (eqb b 0x5C ≡ false) → plain b ≡ true
unfolding plain
plain_true b e f = rw (e, f)

run_first : (p : ℕ → Bool) (b : ℕ) (s : List ℕ) → p b ≡ true → 1 ≤ run p (b ∷ s)
unfolding run
run_first p b s e = rw e (omega arith)

pub sized : (m : Mode) (s : List ℕ) → 0 < length s → Sized s (piece_of m s)
unfolding piece_of
sized m [] h = absurd (omega arith)
sized m (b ∷ s) h =
    cond_cases (Sized (b ∷ s)) (eqb b 0x22) _ _ (λ e. (omega arith, eqb-true b 0x22 e))
    (λ n1. cond_cases (Sized (b ∷ s)) (eqb b 0x5C) _ _ (λ e. behind_sized m b s)
    (λ n2. (run_first plain b s (plain_true b n1 n2), run_le plain (b ∷ s))))

-- the same of a piece that was found
pub found : (m : Mode) (s : List ℕ) (p : Piece) → 0 < length s → p ≡ piece_of m s → Sized s p
found m s p h e = subst (Sized s) (sym e) (sized m s h)

-- ---- the body, piece by piece

body_skip : (m : Mode) (s : List ℕ) (k : ℕ) → body_from m s k ≡ body_of m (drop k s)
unfolding body_from body_of
body_skip m [] zero = refl
body_skip m [] (suc k) = refl
body_skip m (b ∷ s) zero = refl
body_skip m (b ∷ s) (suc k) = body_skip m s k

pub body_end : (m : Mode) (s : List ℕ) → length s ≡ 0 → body_of m s ≡ unclosed
unfolding body_from body_of
body_end m [] h = refl
body_end m (b ∷ s) h = absurd (omega arith)

rest_of : (m : Mode) (b : ℕ) (s : List ℕ) (n : ℕ) → 1 ≤ n → body_from m s (n - 1) ≡ body_of m (drop n (b ∷ s))
rest_of m b s zero h = absurd (omega arith)
rest_of m b s (suc n) h = let e : suc n - 1 ≡ n = omega arith in rw e (body_skip m s n)

body_by : (m : Mode) (b : ℕ) (s : List ℕ) (p : Piece) → Sized (b ∷ s) p
    → by_piece p (b ∷ s) (λ n. body_from m s (n - 1)) ≡ by_piece p (b ∷ s) (λ n. body_of m (drop n (b ∷ s)))
body_by m b s Quote h = refl
body_by m b s (Plain n) h = ap (next n (take n (b ∷ s)) false) (rest_of m b s n h.0)
body_by m b s (Backslash n d) h = ap (next n (bytes_of d) true) (rest_of m b s n h.0)
body_by m b s (pieces.Refused r) h = refl

body_first : (m : Mode) (s : List ℕ) → 0 < length s → body_of m s ≡ by_piece (piece_of m s) s (λ n. body_of m (drop n s))
unfolding body_from body_of
body_first m [] h = absurd (omega arith)
body_first m (b ∷ s) h = body_by m b s (piece_of m (b ∷ s)) (sized m (b ∷ s) h)

-- the piece at the front was found to be p
pub body_step : (m : Mode) (s : List ℕ) (p : Piece) → 0 < length s → p ≡ piece_of m s → body_of m s ≡ by_piece p s (λ n. body_of m (drop n s))
body_step m s p h e = body_first m s h ∙ ap (λ (x : Piece). by_piece x s (λ n. body_of m (drop n s))) (sym e)

-- ---- what is written

pub decoded_length : (d : Decoded) → decoded_len d ≡ length (bytes_of d)
unfolding decoded_len
decoded_length d = refl

pub fine_writable : (d : Decoded) → Fine d → writable d ≡ true
fine_writable Nothing h = refl
fine_writable (decoded.Ascii b) h = refl
fine_writable (decoded.Utf8 c) h = scalar_scalar c h

-- A char, a string and a byte string end between two characters: where one stands in UTF-8, UTF-8 stands behind it.
--     char-cut, string-cut, byte-string-cut
-- Assumes nothing.
use Rattle.std.proofs.Common.{Ok, Err}
use Rattle.text.specs.Refusals.{Told}
use Prim.Native.Nat.{ℕ, suc, ◌+◌, ◌<◌, ◌≤◌}
use native.Mathlib.Omega.{arith}
use mathlib.Core.Bool.{Bool, true, false, cond, ◌||◌, ◌&&◌}
use mathlib.Core.List.{List, [], ◌∷◌}
use mathlib.Core.Path.{◌≡◌, ◌∙◌, ap, refl, subst, sym}
use lib.Dec.{eqb, leb, ltb}
use lib.ListN.{drop, get_or, length, length-drop, take, take-append-drop}
use lib.Seq.{drop-drop}
use borrow.Author.Tests.{eqb-true, leb-true, lt-ltb, ltb-true}
use Rattle.text.proofs.Choices.{and_true, cond_cases}
use Rattle.text.proofs.Lists.{front, head_at}
use Rattle.text.specs.Runs.{ascii, run}
use Rattle.text.specs.Utf8.{Encoded}
use Rattle.escapes.specs.declared.answers.EscapeAnswer.{EscapeAnswer}
use Rattle.escapes.specs.declared.answers.EscapeAnswer.TheVariants.{Ascii, Utf8, Refused as NoEscape}
use Rattle.escapes.specs.declared.answers.Mode.{Mode}
use Rattle.escapes.specs.declared.answers.Mode.TheVariants.{Bytes, Char, Str}
use Rattle.escapes.specs.Escapes.{escape_of}
use Rattle.strings.proofs.More.{encoded_behind, encoded_cut, run_wider}
use Rattle.strings.proofs.Wholes.{Whole, none_here, whole_body}
use Rattle.strings.specs.Chars.{by_char_escape, char_ends, char_of}
use Rattle.strings.specs.Pieces.{Body, body_of, unquoted}
use Rattle.strings.specs.Pieces.Body.{closes, next, spoilt, unclosed}
use Rattle.strings.specs.Quoted.{literal, measured, quoted_of}
use Rattle.strings.specs.Raw.{hash, raw_end, raw_of}
use Rattle.strings.specs.Strings.{byte_string_of, string_of}
use Rattle.strings.specs.declared.literal.Literal.{Literal}

-- ---- UTF-8 cut at ASCII

-- in front of a byte of ASCII
pub cut_at : (s : List ℕ) (n : ℕ) → Encoded s → get_or s n 0 < 0x80 → Encoded (drop n s)
cut_at s n e h = (encoded_cut (take n s) (drop n s) (subst Encoded (sym (take-append-drop n s)) e) (rw (head_at s n) h)).1

-- behind the first, where it is one
pub ascii_behind : (a : ℕ) (s : List ℕ) → Encoded (a ∷ s) → a < 0x80 → Encoded s
unfolding run
ascii_behind a s e h = encoded_behind 1 (a ∷ s) e (rw (lt-ltb a 0x80 h) (omega arith))

-- behind any
pub cut_behind : (s : List ℕ) (n : ℕ) → Encoded s → n < length s → get_or s n 0 < 0x80 → Encoded (drop (n + 1) s)
cut_behind s n e l h = ascii_behind (get_or s n 0) (drop (n + 1) s) (subst Encoded (front s n l) (cut_at s n e h)) h

-- ---- chars

-- behind the closing quote of a char
ends_char : (s : List ℕ) (at code n c : ℕ) → Encoded s → char_ends s at code ≡ Ok (n, c) → Encoded (drop n s)
unfolding char_ends
ends_char s at code n c e =
    cond_cases (λ (a : Told (ℕ × ℕ)). a ≡ Ok (n, c) → Encoded (drop n s)) (eqb (get_or s at 0) 0x27) _ _
    (λ q f. let p : ◌≡◌ {A = ℕ × ℕ} (at + 1, code) (n, c) = cc in
    let z : at + 1 ≡ n = ap (λ (x : ℕ × ℕ). x.0) p in
    subst (λ (k : ℕ). Encoded (drop k s)) z (cut_behind s at e (none_here s at 0x27 (omega arith) q) (omega (arith, eqb-true (get_or s at 0) 0x27 q))))
    (λ q f. let z : ◌≡◌ {A = ℕ} 0 1 = cc in absurd (omega arith))

-- the same of a char that is escaped
escaped_char : (s : List ℕ) (a : EscapeAnswer) (n c : ℕ) → Encoded s → by_char_escape s a ≡ Ok (n, c) → Encoded (drop n s)
escaped_char s (Ascii b k) n c e f = ends_char s (2 + k) b n c e f
escaped_char s (Utf8 d k) n c e f = ends_char s (2 + k) d n c e f
escaped_char s (NoEscape r) n c e f = let z : ◌≡◌ {A = ℕ} 0 1 = cc in absurd (omega arith)

-- UTF-8 stands behind a char
pub char_cut : (s : List ℕ) (n c : ℕ) → Encoded s → char_of s ≡ Ok (n, c) → Encoded (drop n s)
unfolding char_of
char_cut s n c e =
    let P : Told (ℕ × ℕ) → Type 0 = λ a. a ≡ Ok (n, c) → Encoded (drop n s) in
    cond_cases P (eqb (get_or s 0 0) 0x27) _ _
    (λ q. cond_cases P (eqb (length s) 1) _ _ (λ r f. let z : ◌≡◌ {A = ℕ} 0 1 = cc in absurd (omega arith))
    (λ r. cond_cases P (eqb (get_or s 1 0) 0x5C) _ _ (λ t f. escaped_char s (escape_of Char (drop 2 s)) n c e f) (λ t f. ends_char s _ _ n c e f)))
    (λ q f. let z : ◌≡◌ {A = ℕ} 0 1 = cc in absurd (omega arith))

-- ---- quoted strings

-- a quoted string ends with the quote that closes it
record Quote (s : List ℕ) (l : Literal) : Type 0 where
  there : get_or s l.end 0 ≡ 0x22
  behind : l.len ≡ l.end + 1

measured_quote : (s : List ℕ) (b : Body) (start from at dec : ℕ) (esc : Bool) (l : Literal) → Whole (drop at s) b → measured b start from at dec esc ≡ Ok l → Quote s l
unfolding measured
measured_quote s closes start from at dec esc l w e =
    let q : literal (at + 1) start at dec esc ≡ l = cc in
    subst (Quote s) q (record { there = sym (head_at s at) ∙ w.1; behind = refl })
measured_quote s unclosed start from at dec esc l w e = let z : ◌≡◌ {A = ℕ} 0 1 = cc in absurd (omega arith)
measured_quote s (spoilt r) start from at dec esc l w e = let z : ◌≡◌ {A = ℕ} 0 1 = cc in absurd (omega arith)
measured_quote s (next n bytes changed rest) start from at dec esc l w e =
    measured_quote s rest start (cond changed (at + n) from) (at + n) (dec + length bytes) (esc || changed) l (subst (λ (t : List ℕ). Whole t rest) (drop-drop n at s) w.4) e

-- UTF-8 stands behind a quoted string
quoted_cut : (m : Mode) (start : ℕ) (s : List ℕ) (l : Literal) → Encoded s → quoted_of m start s ≡ Ok l → Encoded (drop l.len s)
unfolding quoted_of
quoted_cut m start s l e =
    cond_cases (λ (a : Told Literal). a ≡ Ok l → Encoded (drop l.len s)) (ltb (run unquoted (drop start s)) (length (drop start s))) _ _
    (λ t f. let q = measured_quote s (body_of m (drop start s)) start start start 0 false l (whole_body m (drop start s)) f in
    let z = q.there in
    rw q.behind (cut_behind s l.end e (none_here s l.end 0x22 (omega arith) (ap (λ (x : ℕ). eqb x 0x22) z)) (omega arith)))
    (λ t f. let z : ◌≡◌ {A = ℕ} 0 1 = cc in absurd (omega arith))

-- ---- raw strings

-- a quote, and behind it as many hashes as were asked for
raw_closes : (n : ℕ) (t : List ℕ) → raw_end n t < length t → (get_or t (raw_end n t) 0 ≡ 0x22) × (n ≤ run hash (drop (raw_end n t + 1) t))
unfolding raw_end
raw_closes n [] = λ h. absurd (omega arith)
raw_closes n (b ∷ t) =
    let i : raw_end n t < length t → (get_or t (raw_end n t) 0 ≡ 0x22) × (n ≤ run hash (drop (raw_end n t + 1) t)) = raw_closes n t in
    cond_cases (λ (k : ℕ). k < suc (length t) → (get_or (b ∷ t) k 0 ≡ 0x22) × (n ≤ run hash (drop (k + 1) (b ∷ t)))) (eqb b 0x22 && leb n (run hash t)) _ _
    (λ e h. let p = and_true (eqb b 0x22) (leb n (run hash t)) e in (eqb-true b 0x22 p.0, leb-true n (run hash t) p.1))
    (λ e h. let j = i (omega arith) in (j.0, (let z : suc (raw_end n t) + 1 ≡ suc (raw_end n t + 1) = omega arith in rw z j.1)))

hash_ascii : (b : ℕ) → hash b ≡ true → ascii b ≡ true
hash_ascii b e = lt-ltb b 0x80 (omega (arith, eqb-true b 0x23 e))

-- UTF-8 stands behind a raw string
raw_cut : (m : Mode) (start : ℕ) (s : List ℕ) (l : Literal) → Encoded s → raw_of m start s ≡ Ok l → Encoded (drop l.len s)
unfolding raw_of
raw_cut m start s l e =
    let P : Told Literal → Type 0 = λ a. a ≡ Ok l → Encoded (drop l.len s) in
    let h = run hash (drop start s) in
    let body = start + h + 1 in
    let k = raw_end h (drop body s) in
    let end = body + k in
    cond_cases P (eqb (get_or s (start + h) 0) 0x22) _ _
    (λ q. cond_cases P (ltb end (length s)) _ _
    (λ t f. let lt = ltb-true end (length s) t in
    let c = raw_closes h (drop body s) (omega (arith, length-drop body s)) in
    let g : get_or s end 0 ≡ 0x22 = sym (head_at s end) ∙ ap (λ (x : List ℕ). get_or x 0 0) (sym (drop-drop k body s)) ∙ head_at (drop body s) k ∙ c.0 in
    let w : body + (k + 1) ≡ end + 1 = omega arith in
    let r : drop (k + 1) (drop body s) ≡ drop (end + 1) s = drop-drop (k + 1) body s ∙ ap (λ (x : ℕ). drop x s) w in
    let n : h ≤ run ascii (drop (end + 1) s) = omega (arith, c.1, run_wider hash ascii hash_ascii (drop (k + 1) (drop body s)), ap (run ascii) r) in
    let d : Encoded (drop h (drop (end + 1) s)) = encoded_behind h (drop (end + 1) s) (cut_behind s end e lt (omega arith)) n in
    let z : end + 1 + h ≡ l.len = ap (λ (a : Told Literal). length_of a) f in
    subst Encoded (drop-drop h (end + 1) s ∙ ap (λ (x : ℕ). drop x s) z) d)
    (λ t f. let z : ◌≡◌ {A = ℕ} 0 1 = cc in absurd (omega arith)))
    (λ q f. let z : ◌≡◌ {A = ℕ} 0 1 = cc in absurd (omega arith))
  where
    length_of : Told Literal → ℕ
    length_of (Ok l) = l.len
    length_of (Err r) = 0

-- ---- strings and byte strings

-- UTF-8 stands behind a string
pub string_cut : (s : List ℕ) (l : Literal) → Encoded s → string_of s ≡ Ok l → Encoded (drop l.len s)
unfolding string_of
string_cut s l e =
    let P : Told Literal → Type 0 = λ a. a ≡ Ok l → Encoded (drop l.len s) in
    cond_cases P (eqb (get_or s 0 0) 0x22) _ _ (λ q f. quoted_cut Str 1 s l e f)
    (λ q. cond_cases P (eqb (get_or s 0 0) 0x72) _ _ (λ r f. raw_cut Str 1 s l e f) (λ r f. let z : ◌≡◌ {A = ℕ} 0 1 = cc in absurd (omega arith)))

-- and behind a byte string
pub byte_string_cut : (s : List ℕ) (l : Literal) → Encoded s → byte_string_of s ≡ Ok l → Encoded (drop l.len s)
unfolding byte_string_of
byte_string_cut s l e =
    let P : Told Literal → Type 0 = λ a. a ≡ Ok l → Encoded (drop l.len s) in
    cond_cases P (eqb (get_or s 0 0) 0x62) _ _
    (λ p. cond_cases P (eqb (get_or s 1 0) 0x22) _ _ (λ q f. quoted_cut Bytes 2 s l e f)
    (λ q. cond_cases P (eqb (get_or s 1 0) 0x72) _ _ (λ r f. raw_cut Bytes 2 s l e f) (λ r f. let z : ◌≡◌ {A = ℕ} 0 1 = cc in absurd (omega arith))))
    (λ p f. let z : ◌≡◌ {A = ℕ} 0 1 = cc in absurd (omega arith))

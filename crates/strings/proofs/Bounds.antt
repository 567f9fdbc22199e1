-- How far strings, chars and byte literals reach: `string_bounded`, `byte_string_bounded`, `char_bounded`, `byte_bounded`. Assumes nothing.
use Rattle.std.proofs.Common.{Ok, Err}
use Rattle.text.specs.Refusals.{Told, expected_byte_string, expected_string, expected_string_end, placed_behind}
use Prim.Native.Nat.{◌+◌, ◌<◌, ◌≤◌, suc, zero, ℕ}
use native.Mathlib.Omega.{arith}
use mathlib.Core.Bool.{Bool, ◌&&◌, ◌||◌, cond, false}
use mathlib.Core.List.{List}
use mathlib.Core.Logic.{inl}
use mathlib.Core.Path.{◌≡◌, ap, refl}
use lib.Dec.{eqb, ltb}
use lib.ListN.{drop, get_or, length, length-drop}
use borrow.Author.Tests.{eqb-false, eqb-true, ltb-true}
use Rattle.escapes.proofs.Bounded.{Bounded, bounded}
use Rattle.escapes.proofs.Decoded.{Decodes, code_scalar, decoded}
use Rattle.escapes.specs.Escapes.{escape_of}
use Rattle.escapes.specs.declared.answers.EscapeAnswer.{EscapeAnswer}
use Rattle.escapes.specs.declared.answers.EscapeAnswer.TheVariants.{Ascii, Utf8, Refused as NoEscape}
use Rattle.escapes.specs.declared.answers.Mode.{Mode}
use Rattle.escapes.specs.declared.answers.Mode.TheVariants.{Char, Bytes, Str}
use Rattle.strings.proofs.Wholes.{Whole, Whole-string, byte_string_whole, none_here, string_whole, whole_body}
use Rattle.strings.specs.Chars.{by_byte_escape, by_char_escape, byte_ends, byte_of, char_ends, char_of}
use Rattle.strings.specs.Pieces.{Body, body_of, unquoted}
use Rattle.strings.specs.Pieces.Body.{closes, next, spoilt, unclosed}
use Rattle.strings.specs.Quoted.{measured, quoted_of}
use Rattle.strings.specs.Raw.{hash, missing, raw_end, raw_of}
use Rattle.strings.specs.Strings.{byte_string_decoded, byte_string_of, string_decoded, string_of}
use Rattle.strings.specs.declared.literal.Literal.{Literal}
use Rattle.text.proofs.Choices.{and_true, bool_cases, cond_cases, either}
use Rattle.text.proofs.Lists.{head_at}
use Rattle.text.proofs.RunLaws.{run_le}
use Rattle.text.proofs.Utf8Agree.{char_len_le}
use Rattle.text.proofs.Utf8Laws.{char_len_ascii}
use Rattle.text.specs.Runs.{ascii, run}
use Rattle.text.specs.Utf8.{Scalar, char_len, code_of}
use Rattle.text.specs.declared.refusal.Refusal.{Refusal}

-- ---- strings

-- a string of 1 or more bytes within s, its contents within the string, and no more bytes decoded than it has; a refusal's place within s
abbrev pub Bounded-string : List ℕ → Told Literal → Type 0
Bounded-string s (Ok l) = (0 < l.len) × (l.len ≤ length s) × (l.start ≤ l.end) × (l.end ≤ l.len) × (l.decoded ≤ l.len)
Bounded-string s (Err r) = r.place ≤ length s

measured_place : (b : Body) (t : List ℕ) (start from at dec : ℕ) (esc : Bool) (r : Refusal) → Whole t b → from ≤ at + length t → measured b start from at dec esc ≡ Err r → r.place ≤ at + length t
unfolding measured
measured_place closes t start from at dec esc r w h e = let z : ◌≡◌ {A = ℕ} 0 1 = cc in absurd (omega arith)
measured_place unclosed t start from at dec esc r w h e = let q : expected_string_end from ≡ r = cc in omega (arith, ap (λ (x : Refusal). x.place) q)
measured_place (spoilt x) t start from at dec esc r w h e = let q : placed_behind at x ≡ r = cc in omega (arith, ap (λ (x : Refusal). x.place) q)
measured_place (next n bytes changed rest) t start from at dec esc r w h e =
    let d = length-drop n t in
    let f : cond changed (at + n) from ≤ at + n + length (drop n t) = cond_cases (λ (x : ℕ). x ≤ at + n + length (drop n t)) changed _ _ (λ c. omega arith) (λ c. omega (arith, w.1)) in
    let i = measured_place rest (drop n t) start (cond changed (at + n) from) (at + n) (dec + length bytes) (esc || changed) r w.4 f e in
    omega (arith, w.1)

quoted_place : (m : Mode) (start : ℕ) (s : List ℕ) (r : Refusal) → start ≤ length s → quoted_of m start s ≡ Err r → r.place ≤ length s
unfolding quoted_of
quoted_place m start s r h =
    let d = length-drop start s in
    cond_cases (λ (a : Told Literal). a ≡ Err r → r.place ≤ length s) (ltb (run unquoted (drop start s)) (length (drop start s))) _ _
    (λ t e. omega (arith, measured_place (body_of m (drop start s)) (drop start s) start start start 0 false r (whole_body m (drop start s)) (omega arith) e))
    (λ t e. let q : expected_string_end start ≡ r = cc in omega (arith, ap (λ (x : Refusal). x.place) q))

missing_place : (m : Mode) (p : ℕ) → (missing m p).place ≡ p
missing_place Str p = refl
missing_place Char p = refl
missing_place Bytes p = refl

raw_place : (m : Mode) (start : ℕ) (s : List ℕ) (r : Refusal) → start ≤ length s → raw_of m start s ≡ Err r → r.place ≤ length s
unfolding raw_of
raw_place m start s r h =
    let k = run hash (drop start s) in
    let body = start + k + 1 in
    let n = raw_end k (drop body s) in
    cond_cases (λ (a : Told Literal). a ≡ Err r → r.place ≤ length s) (eqb (get_or s (start + k) 0) 0x22) _ _
    (λ q. cond_cases (λ (a : Told Literal). a ≡ Err r → r.place ≤ length s) (ltb (body + n) (length s)) _ _
    (λ t e. let z : ◌≡◌ {A = ℕ} 0 1 = cc in absurd (omega arith))
    (λ t e. let i : expected_string_end body ≡ r = cc in omega (arith, ap (λ (x : Refusal). x.place) i, none_here s (start + k) 0x22 (omega arith) q)))
    (λ q e. let i : missing m (start + k) ≡ r = cc in omega (arith, ap (λ (x : Refusal). x.place) i, missing_place m (start + k), run_le hash (drop start s), length-drop start s))

read_bounded : (m : Mode) (s bytes : List ℕ) (l : Literal) → Whole-string m s bytes l → Bounded-string s (Ok l)
read_bounded m s bytes l w = (omega (arith, w.inside), w.fits, w.ordered, omega (arith, w.inside), omega (arith, w.inside, w.short))

string_refused : (s : List ℕ) (r : Refusal) → string_of s ≡ Err r → r.place ≤ length s
unfolding string_of
string_refused s r =
    cond_cases (λ (a : Told Literal). a ≡ Err r → r.place ≤ length s) (eqb (get_or s 0 0) 0x22) _ _
    (λ q e. quoted_place Str 1 s r (none_here s 0 0x22 (omega arith) q) e)
    (λ n. cond_cases (λ (a : Told Literal). a ≡ Err r → r.place ≤ length s) (eqb (get_or s 0 0) 0x72) _ _
    (λ q e. raw_place Str 1 s r (none_here s 0 0x72 (omega arith) q) e)
    (λ q e. let i : expected_string 0 ≡ r = cc in omega (arith, ap (λ (x : Refusal). x.place) i)))

byte_string_refused : (s : List ℕ) (r : Refusal) → byte_string_of s ≡ Err r → r.place ≤ length s
unfolding byte_string_of
byte_string_refused s r =
    cond_cases (λ (a : Told Literal). a ≡ Err r → r.place ≤ length s) (eqb (get_or s 0 0) 0x62) _ _
    (λ p. cond_cases (λ (a : Told Literal). a ≡ Err r → r.place ≤ length s) (eqb (get_or s 1 0) 0x22) _ _
    (λ q e. quoted_place Bytes 2 s r (none_here s 1 0x22 (omega arith) q) e)
    (λ n. cond_cases (λ (a : Told Literal). a ≡ Err r → r.place ≤ length s) (eqb (get_or s 1 0) 0x72) _ _
    (λ q e. raw_place Bytes 2 s r (none_here s 1 0x72 (omega arith) q) e)
    (λ q e. let i : expected_byte_string 0 ≡ r = cc in omega (arith, ap (λ (x : Refusal). x.place) i))))
    (λ p e. let i : expected_byte_string 0 ≡ r = cc in omega (arith, ap (λ (x : Refusal). x.place) i))

string_by : (s : List ℕ) (a : Told Literal) → string_of s ≡ a → Bounded-string s a
string_by s (Ok l) e = read_bounded Str s (string_decoded s) l (string_whole s l e)
string_by s (Err r) e = string_refused s r e

pub string_bounded : (s : List ℕ) → Bounded-string s (string_of s)
string_bounded s = string_by s (string_of s) refl

byte_string_by : (s : List ℕ) (a : Told Literal) → byte_string_of s ≡ a → Bounded-string s a
byte_string_by s (Ok l) e = read_bounded Bytes s (byte_string_decoded s) l (byte_string_whole s l e)
byte_string_by s (Err r) e = byte_string_refused s r e

pub byte_string_bounded : (s : List ℕ) → Bounded-string s (byte_string_of s)
byte_string_bounded s = byte_string_by s (byte_string_of s) refl

-- ---- chars and byte literals

-- a char of 3 or more bytes within s is one scalar value; a refusal's place lies within s
abbrev pub Bounded-char : List ℕ → Told (ℕ × ℕ) → Type 0
Bounded-char s (Ok (n, c)) = (3 ≤ n) × (n ≤ length s) × Scalar c
Bounded-char s (Err r) = r.place ≤ length s

char-ends : (s : List ℕ) (at c : ℕ) → 2 ≤ at → at ≤ length s → Scalar c → Bounded-char s (char_ends s at c)
unfolding char_ends
char-ends s at c p h d =
    cond_cases (Bounded-char s) (eqb (get_or s at 0) 0x27) _ _ (λ q. (omega arith, omega (arith, none_here s at 0x27 (omega arith) q), d)) (λ q. h)

char_escape : (s : List ℕ) (a : EscapeAnswer) → 2 ≤ length s → Bounded (drop 2 s) a → Decodes 0x80 a → Bounded-char s (by_char_escape s a)
char_escape s (Ascii b n) h i d = char-ends s (2 + n) b (omega arith) (omega (arith, i.1, run_le ascii (drop 2 s), length-drop 2 s)) (omega arith, inl (omega arith))
char_escape s (Utf8 c n) h i d = char-ends s (2 + n) c (omega arith) (omega (arith, i.1, run_le ascii (drop 2 s), length-drop 2 s)) d
char_escape s (NoEscape r) h i d = omega (arith, length-drop 2 s)

-- where no character stands, no quote stands either
pub no_quote : (s : List ℕ) → 2 ≤ length s → char_len (drop 1 s) ≡ 0 → eqb (get_or s 1 0) 0x27 ≡ false
no_quote s h e =
    either (bool_cases (eqb (get_or s 1 0) 0x27))
    (λ q. let z : char_len (drop 1 s) ≡ 1 = char_len_ascii (drop 1 s) (omega (arith, length-drop 1 s)) (omega (arith, head_at s 1, eqb-true (get_or s 1 0) 0x27 q)) in absurd (omega arith))
    (λ q. q)

char_stands : (s : List ℕ) (n : ℕ) → 2 ≤ length s → char_len (drop 1 s) ≡ n → Bounded-char s (char_ends s (1 + n) (code_of (drop 1 s)))
unfolding char_ends
char_stands s zero h e = rw (no_quote s h e) (omega arith)
char_stands s (suc n) h e =
    cond_cases (Bounded-char s) (eqb (get_or s (1 + suc n) 0) 0x27) _ _
    (λ q. (omega arith, omega (arith, none_here s (1 + suc n) 0x27 (omega arith) q), code_scalar (drop 1 s) (λ z. omega arith)))
    (λ q. omega (arith, char_len_le (drop 1 s), length-drop 1 s))

pub char_bounded : (s : List ℕ) → Bounded-char s (char_of s)
unfolding char_of
char_bounded s =
    cond_cases (Bounded-char s) (eqb (get_or s 0 0) 0x27) _ _
    (λ p. let i = none_here s 0 0x27 (omega arith) p in
    cond_cases (Bounded-char s) (eqb (length s) 1) _ _ (λ q. omega arith)
    (λ n. let j : 2 ≤ length s = (let k = eqb-false (length s) 1 n in omega arith) in
    cond_cases (Bounded-char s) (eqb (get_or s 1 0) 0x5C) _ _
    (λ q. char_escape s (escape_of Char (drop 2 s)) j (bounded Char (drop 2 s)) (decoded Char (drop 2 s)))
    (λ q. char_stands s (char_len (drop 1 s)) j refl)))
    (λ p. omega arith)

-- a byte literal of 4 or more bytes within s; a refusal's place lies within s
abbrev pub Bounded-byte : List ℕ → Told (ℕ × ℕ) → Type 0
Bounded-byte s (Ok (n, b)) = (4 ≤ n) × (n ≤ length s) × (b < 256)
Bounded-byte s (Err r) = r.place ≤ length s

byte-ends : (s : List ℕ) (at b : ℕ) → 3 ≤ at → at ≤ length s → b < 256 → Bounded-byte s (byte_ends s at b)
unfolding byte_ends
byte-ends s at b p h d =
    cond_cases (Bounded-byte s) (eqb (get_or s at 0) 0x27) _ _ (λ q. (omega arith, omega (arith, none_here s at 0x27 (omega arith) q), d)) (λ q. h)

byte_escape : (s : List ℕ) (a : EscapeAnswer) → 3 ≤ length s → Bounded (drop 3 s) a → Decodes 256 a → Bounded-byte s (by_byte_escape s a)
byte_escape s (Ascii b n) h i d = byte-ends s (3 + n) b (omega arith) (omega (arith, i.1, run_le ascii (drop 3 s), length-drop 3 s)) d
byte_escape s (Utf8 c n) h i d = omega (arith, i.1, run_le ascii (drop 3 s), length-drop 3 s)
byte_escape s (NoEscape r) h i d = omega (arith, length-drop 3 s)

pub byte_bounded : (s : List ℕ) → Bounded-byte s (byte_of s)
unfolding byte_of
byte_bounded s =
    cond_cases (Bounded-byte s) (eqb (get_or s 0 0) 0x62 && eqb (get_or s 1 0) 0x27) _ _
    (λ p. let i = none_here s 1 0x27 (omega arith) (and_true (eqb (get_or s 0 0) 0x62) (eqb (get_or s 1 0) 0x27) p).1 in
    cond_cases (Bounded-byte s) (eqb (length s) 2) _ _ (λ q. omega arith)
    (λ n. let j : 3 ≤ length s = (let k = eqb-false (length s) 2 n in omega arith) in
    cond_cases (Bounded-byte s) (eqb (get_or s 2 0) 0x5C) _ _
    (λ q. byte_escape s (escape_of Bytes (drop 3 s)) j (bounded Bytes (drop 3 s)) (decoded Bytes (drop 3 s)))
    (λ q. cond_cases (Bounded-byte s) (ltb (get_or s 2 0) 0x80) _ _
    (λ t. byte-ends s 3 (get_or s 2 0) (omega arith) j (omega (arith, ltb-true (get_or s 2 0) 0x80 t)))
    (λ t. omega (arith, char_len_le (drop 2 s), length-drop 2 s)))))
    (λ p. omega arith)

-- The decision, RFC 3629's grammar and RFC 3629's encoding agree.
--     good-encoded, encoded-good    the checker accepts exactly the runs of encodings of scalar values
--     bad-means, means-bad          the place of refusal 2 is exactly the first place at which no such encoding stands
--     head-view, char_len-char       a width that is not 0 is that of a character of the grammar, and every such character has its width
--     char-encode, char-scalar      the characters of the grammar are exactly the encodings of scalar values
-- Assumes nothing.
use Rattle.std.proofs.Common.{Some, None}
use Prim.Native.Nat.{ℕ, zero, suc, ◌+◌, ◌*◌, ◌/◌, ◌%◌, ◌≤◌, ◌<◌, ◌-◌}
use native.Mathlib.Omega.{arith}
use mathlib.Core.Bool.{Bool, true}
use mathlib.Core.List.{List, [], ◌∷◌, ◌++◌, append_assoc, append-nil}
use mathlib.Core.Logic.{◌⊎◌, inl, inr, ⊎_elim}
use mathlib.Core.Path.{◌≡◌, refl, sym, ap, ◌∙◌, subst}
use lib.Dec.{ltb}
use lib.ListN.{length, get_or, take, drop, length-append, length-drop, take-append-drop, set}
use lib.Seq.{length-take-le, drop_at, take-append-add, drop-append-add}
use borrow.Author.Tests.{ltb-true, ltb-false, le-leb, lt-leb, lt-ltb, le-ltb, ne_eqb}
use Rattle.text.proofs.Choices.{cond_cases, lt_or_le}
use Rattle.text.proofs.ClassLaws.{within_true, in_within, above}
use Rattle.text.proofs.Lists.{tail_part}
use Rattle.text.proofs.Utf8Laws.{width_view, Second, View, utf8_step, utf8_bad, utf8_end}
use Rattle.text.proofs.Utf8Laws.Second.{after_E0, after_ED, after_F0, after_F4, after_other}
use Rattle.text.proofs.Utf8Laws.View.{v0, v1, v2, v3, v4}
use Rattle.text.specs.Classes.{within}
use Rattle.text.specs.Utf8.{second_byte, behind_three, behind_four, width_of, char_len, utf8_from, utf8_of, In, Tail, Char, Text, Scalar, encode, Encoded, code_of4, code_of, scalar, encoded_len}
use Rattle.text.specs.Utf8.Char.{utf8_1, utf8_2, utf8_3a, utf8_3b, utf8_3c, utf8_3d, utf8_4a, utf8_4b, utf8_4c}
use Rattle.text.specs.Utf8.Encoded.{ends, next}
use Rattle.text.specs.Utf8.Text.{none, more}

-- ---- the decision is sound

three_char : (a b c : ℕ) → In 0xE0 0xEF a → Second a b → Tail c → Char (a ∷ b ∷ c ∷ [])
three_char a b c i (after_E0 e h) k = utf8_3a e h k
three_char a b c i (after_ED e h) k = utf8_3c e h k
three_char a b c i (after_F0 e h) k = absurd (omega arith)
three_char a b c i (after_F4 e h) k = absurd (omega arith)
three_char a b c i (after_other n1 n2 n3 n4 h) k =
    ⊎_elim (λ l. utf8_3b {a = a} (omega arith) h k) (λ l. utf8_3d {a = a} (omega arith) h k) (lt_or_le a 0xED)

four_char : (a b c d : ℕ) → In 0xF0 0xF4 a → Second a b → Tail c → Tail d → Char (a ∷ b ∷ c ∷ d ∷ [])
four_char a b c d i (after_E0 e h) k l = absurd (omega arith)
four_char a b c d i (after_ED e h) k l = absurd (omega arith)
four_char a b c d i (after_F0 e h) k l = utf8_4a e h k l
four_char a b c d i (after_F4 e h) k l = utf8_4c e h k l
four_char a b c d i (after_other n1 n2 n3 n4 h) k l = utf8_4b {a = a} (omega arith) h k l

-- what a width says of the list
pub data Head (s : List ℕ) : ℕ → Type 0 where
  no_char : Head s 0
  a_char : {l : List ℕ} (t : List ℕ) {n : ℕ} → Char l → length l ≡ suc n → s ≡ l ++ t → Head s (suc n)

head_of : (a : ℕ) (s : List ℕ) (n : ℕ) → View a (get_or s 0 0) (get_or s 1 0) (get_or s 2 0) n → Head (a ∷ s) n
head_of a s n v0 = no_char
head_of a s n (v1 h) = a_char s (utf8_1 h) refl refl
head_of a [] n (v2 h k) = absurd (omega arith)
head_of a (b ∷ s) n (v2 h k) = a_char s (utf8_2 h k) refl refl
head_of a [] n (v3 h k l) = absurd (omega arith)
head_of a (b ∷ []) n (v3 h k l) = absurd (omega arith)
head_of a (b ∷ c ∷ s) n (v3 h k l) = a_char s (three_char a b c h k l) refl refl
head_of a [] n (v4 h k l m) = absurd (omega arith)
head_of a (b ∷ []) n (v4 h k l m) = absurd (omega arith)
head_of a (b ∷ c ∷ []) n (v4 h k l m) = absurd (omega arith)
head_of a (b ∷ c ∷ d ∷ s) n (v4 h k l m) = a_char s (four_char a b c d h k l m) refl refl

pub head_view : (s : List ℕ) → Head s (char_len s)
unfolding char_len
head_view [] = no_char
head_view (a ∷ s) = head_of a s (width_of a (get_or s 0 0) (get_or s 1 0) (get_or s 2 0)) (width_view a (get_or s 0 0) (get_or s 1 0) (get_or s 2 0))

head_le : (s : List ℕ) (n : ℕ) → Head s n → n ≤ length s
head_le s n no_char = omega arith
head_le s n (a_char {l} t ch e q) = omega (arith, length-append l t, ap length q)

pub char_len_le : (s : List ℕ) → char_len s ≤ length s
char_len_le s = head_le s (char_len s) (head_view s)

-- what `char_len` answers on the part from a place, and that it lies within the text
pub part_char : (s : List ℕ) (at n : ℕ) → n ≡ char_len (take (length s - at) (drop at s)) → (char_len (drop at s) ≡ n) × (n ≤ length s - at)
part_char s at n e =
    let same : char_len (drop at s) ≡ n = ap char_len (sym (tail_part s at)) ∙ sym e in
    (same, omega (arith, same, char_len_le (drop at s), length-drop at s))

-- ---- the decision is complete

pub char_len_char : (l t : List ℕ) → Char l → char_len (l ++ t) ≡ length l
unfolding char_len width_of behind_three behind_four second_byte within
char_len_char l t (utf8_1 {a} h) = simp (le-leb a 0x7F h)
char_len_char l t (utf8_2 {a} {b} h k) =
    simp (lt-leb a 0x7F (omega arith), in_within 0xC2 0xDF a h, in_within 0x80 0xBF b k)
char_len_char l t (utf8_3a {a} {b} {c} e h k) = rw e (simp (in_within 0xA0 0xBF b h, in_within 0x80 0xBF c k))
char_len_char l t (utf8_3b {a} {b} {c} i h k) =
    simp (
      lt-leb a 0x7F (omega arith),
      above 0xC2 0xDF a (omega arith),
      in_within 0xE0 0xEF a (omega arith),
      ne_eqb a 0xE0 (omega arith),
      ne_eqb a 0xED (omega arith),
      ne_eqb a 0xF0 (omega arith),
      ne_eqb a 0xF4 (omega arith),
      in_within 0x80 0xBF b h,
      in_within 0x80 0xBF c k,
    )
char_len_char l t (utf8_3c {a} {b} {c} e h k) = rw e (simp (in_within 0x80 0x9F b h, in_within 0x80 0xBF c k))
char_len_char l t (utf8_3d {a} {b} {c} i h k) =
    simp (
      lt-leb a 0x7F (omega arith),
      above 0xC2 0xDF a (omega arith),
      in_within 0xE0 0xEF a (omega arith),
      ne_eqb a 0xE0 (omega arith),
      ne_eqb a 0xED (omega arith),
      ne_eqb a 0xF0 (omega arith),
      ne_eqb a 0xF4 (omega arith),
      in_within 0x80 0xBF b h,
      in_within 0x80 0xBF c k,
    )
char_len_char l t (utf8_4a {a} {b} {c} {d} e h k m) = rw e (simp (in_within 0x90 0xBF b h, in_within 0x80 0xBF c k, in_within 0x80 0xBF d m))
char_len_char l t (utf8_4b {a} {b} {c} {d} i h k m) =
    simp (
      lt-leb a 0x7F (omega arith),
      above 0xC2 0xDF a (omega arith),
      above 0xE0 0xEF a (omega arith),
      in_within 0xF0 0xF4 a (omega arith),
      ne_eqb a 0xE0 (omega arith),
      ne_eqb a 0xED (omega arith),
      ne_eqb a 0xF0 (omega arith),
      ne_eqb a 0xF4 (omega arith),
      in_within 0x80 0xBF b h,
      in_within 0x80 0xBF c k,
      in_within 0x80 0xBF d m,
    )
char_len_char l t (utf8_4c {a} {b} {c} {d} e h k m) = rw e (simp (in_within 0x80 0x8F b h, in_within 0x80 0xBF c k, in_within 0x80 0xBF d m))

-- ---- the encoding of a scalar value is a character of the grammar

pub char_encode : (c : ℕ) → Scalar c → Char (encode c)
unfolding encode
char_encode c s =
    cond_cases Char (ltb c 0x80) _ _ (λ e. let h : c < 0x80 = ltb-true c 0x80 e in utf8_1 (omega arith))
    (λ n1. let h1 : 0x80 ≤ c = ltb-false c 0x80 n1 in
    cond_cases Char (ltb c 0x800) _ _ (λ e. let h : c < 0x800 = ltb-true c 0x800 e in utf8_2 {a = 0xC0 + c / 64} {b = 0x80 + c % 64} (omega arith) (omega arith))
    (λ n2. let h2 : 0x800 ≤ c = ltb-false c 0x800 n2 in
    cond_cases Char (ltb c 0x10000) _ _ (λ e. three_bytes c h2 (ltb-true c 0x10000 e) s.1)
    (λ n3. four_bytes c (ltb-false c 0x10000 n3) s.0)))
  where
    three_bytes : (c : ℕ) → 0x800 ≤ c → c < 0x10000 → (c < 0xD800) ⊎ (0xDFFF < c) → Char ((0xE0 + c / 4096) ∷ (0x80 + c / 64 % 64) ∷ (0x80 + c % 64) ∷ [])
    three_bytes c l h (inl s) =
        ⊎_elim (λ k. utf8_3a {a = 0xE0 + c / 4096} {b = 0x80 + c / 64 % 64} {c = 0x80 + c % 64} (omega arith) (omega arith) (omega arith))
        (λ k. ⊎_elim (λ m. utf8_3b {a = 0xE0 + c / 4096} {b = 0x80 + c / 64 % 64} {c = 0x80 + c % 64} (omega arith) (omega arith) (omega arith))
        (λ m. utf8_3c {a = 0xE0 + c / 4096} {b = 0x80 + c / 64 % 64} {c = 0x80 + c % 64} (omega arith) (omega arith) (omega arith))
        (lt_or_le c 0xD000))
        (lt_or_le c 0x1000)
    three_bytes c l h (inr s) =
        utf8_3d {a = 0xE0 + c / 4096} {b = 0x80 + c / 64 % 64} {c = 0x80 + c % 64} (omega arith) (omega arith) (omega arith)

    four_bytes : (c : ℕ) → 0x10000 ≤ c → c ≤ 0x10FFFF → Char ((0xF0 + c / 262144) ∷ (0x80 + c / 4096 % 64) ∷ (0x80 + c / 64 % 64) ∷ (0x80 + c % 64) ∷ [])
    four_bytes c l h =
        ⊎_elim (λ k. utf8_4a {a = 0xF0 + c / 262144} {b = 0x80 + c / 4096 % 64} {c = 0x80 + c / 64 % 64} {d = 0x80 + c % 64} (omega arith) (omega arith) (omega arith) (omega arith))
        (λ k. ⊎_elim (λ m. utf8_4b {a = 0xF0 + c / 262144} {b = 0x80 + c / 4096 % 64} {c = 0x80 + c / 64 % 64} {d = 0x80 + c % 64} (omega arith) (omega arith) (omega arith) (omega arith))
        (λ m. utf8_4c {a = 0xF0 + c / 262144} {b = 0x80 + c / 4096 % 64} {c = 0x80 + c / 64 % 64} {d = 0x80 + c % 64} (omega arith) (omega arith) (omega arith) (omega arith))
        (lt_or_le c 0x100000))
        (lt_or_le c 0x40000)

-- ---- the four lengths of an encoding

pub encode_1 : (c : ℕ) → c < 0x80 → encode c ≡ c ∷ []
unfolding encode
encode_1 c h = simp (lt-ltb c 0x80 h)

pub encode_2 : (c : ℕ) → 0x80 ≤ c → c < 0x800 → encode c ≡ (0xC0 + c / 64) ∷ (0x80 + c % 64) ∷ []
unfolding encode
encode_2 c l h = simp (le-ltb c 0x80 l, lt-ltb c 0x800 h)

pub encode_3 : (c : ℕ) → 0x800 ≤ c → c < 0x10000 → encode c ≡ (0xE0 + c / 4096) ∷ (0x80 + c / 64 % 64) ∷ (0x80 + c % 64) ∷ []
unfolding encode
encode_3 c l h = simp (le-ltb c 0x80 (omega arith), le-ltb c 0x800 l, lt-ltb c 0x10000 h)

pub encode_4 : (c : ℕ) → 0x10000 ≤ c → encode c ≡ (0xF0 + c / 262144) ∷ (0x80 + c / 4096 % 64) ∷ (0x80 + c / 64 % 64) ∷ (0x80 + c % 64) ∷ []
unfolding encode
encode_4 c l = simp (le-ltb c 0x80 (omega arith), le-ltb c 0x800 (omega arith), le-ltb c 0x10000 l)

-- ---- and of a code point's bytes

pub code_1 : (a b c d : ℕ) → a < 0x80 → code_of4 a b c d ≡ a
unfolding code_of4
code_1 a b c d h = simp (lt-ltb a 0x80 h)

pub code_2 : (a b c d : ℕ) → 0x80 ≤ a → a < 0xE0 → code_of4 a b c d ≡ a % 32 * 64 + b % 64
unfolding code_of4
code_2 a b c d l h = simp (le-ltb a 0x80 l, lt-ltb a 0xE0 h)

pub code_3 : (a b c d : ℕ) → 0xE0 ≤ a → a < 0xF0 → code_of4 a b c d ≡ a % 16 * 4096 + b % 64 * 64 + c % 64
unfolding code_of4
code_3 a b c d l h = simp (le-ltb a 0x80 (omega arith), le-ltb a 0xE0 l, lt-ltb a 0xF0 h)

pub code_4 : (a b c d : ℕ) → 0xF0 ≤ a → code_of4 a b c d ≡ a % 8 * 262144 + b % 64 * 4096 + c % 64 * 64 + d % 64
unfolding code_of4
code_4 a b c d l = simp (le-ltb a 0x80 (omega arith), le-ltb a 0xE0 (omega arith), le-ltb a 0xF0 l)

-- ---- decoding takes an encoding back

-- four digits to the base 64, put together. Over variables: at the quotients themselves `omega` meets a bound of its own.
join_4 : (c x y z p q r : ℕ) → x * 64 + p ≡ c → y * 64 + q ≡ x → z * 64 + r ≡ y → z * 262144 + r * 4096 + q * 64 + p ≡ c
join_4 c x y z p q r e f g = omega arith

digits_4 : (c : ℕ) → c / 262144 * 262144 + c / 4096 % 64 * 4096 + c / 64 % 64 * 64 + c % 64 ≡ c
digits_4 c = join_4 c (c / 64) (c / 4096) (c / 262144) (c % 64) (c / 64 % 64) (c / 4096 % 64) (omega arith) (omega arith) (omega arith)

low_64 : (x : ℕ) → (0x80 + x % 64) % 64 ≡ x % 64
low_64 x = omega arith

low_8 : (x : ℕ) → x < 8 → (0xF0 + x) % 8 ≡ x
low_8 x h = omega arith

pub decode_encode : (c : ℕ) (t : List ℕ) → Scalar c → code_of (encode c ++ t) ≡ c
unfolding encode code_of
decode_encode c t s =
    cond_cases Back (ltb c 0x80) _ _ (λ e. code_1 c _ _ _ (ltb-true c 0x80 e))
    (λ n1. cond_cases Back (ltb c 0x800) _ _ (λ e. two (ltb-false c 0x80 n1) (ltb-true c 0x800 e))
    (λ n2. cond_cases Back (ltb c 0x10000) _ _ (λ e. three (ltb-false c 0x800 n2) (ltb-true c 0x10000 e))
    (λ n3. four (ltb-false c 0x10000 n3) s.0)))
  where
    Back : List ℕ → Type 0
    Back l = code_of4 (get_or (l ++ t) 0 0) (get_or (l ++ t) 1 0) (get_or (l ++ t) 2 0) (get_or (l ++ t) 3 0) ≡ c

    two : 0x80 ≤ c → c < 0x800 → Back ((0xC0 + c / 64) ∷ (0x80 + c % 64) ∷ [])
    two l h = code_2 (0xC0 + c / 64) (0x80 + c % 64) _ _ (omega arith) (omega arith) ∙ omega arith

    three : 0x800 ≤ c → c < 0x10000 → Back ((0xE0 + c / 4096) ∷ (0x80 + c / 64 % 64) ∷ (0x80 + c % 64) ∷ [])
    three l h = code_3 (0xE0 + c / 4096) (0x80 + c / 64 % 64) (0x80 + c % 64) _ (omega arith) (omega arith) ∙ omega arith

    four : 0x10000 ≤ c → c ≤ 0x10FFFF → Back ((0xF0 + c / 262144) ∷ (0x80 + c / 4096 % 64) ∷ (0x80 + c / 64 % 64) ∷ (0x80 + c % 64) ∷ [])
    four l h = code_4 (0xF0 + c / 262144) (0x80 + c / 4096 % 64) (0x80 + c / 64 % 64) (0x80 + c % 64) (omega arith)
        ∙ simp (low_64, low_8 (c / 262144) (omega arith)) (digits_4 c)

-- ---- a character of the grammar is the encoding of a scalar value

list_2 : {a a' b b' : ℕ} → a ≡ a' → b ≡ b' → a ∷ b ∷ [] ≡ a' ∷ b' ∷ []
list_2 p q = cc

list_3 : {a a' b b' c c' : ℕ} → a ≡ a' → b ≡ b' → c ≡ c' → a ∷ b ∷ c ∷ [] ≡ a' ∷ b' ∷ c' ∷ []
list_3 p q r = cc

list_4 : {a a' b b' c c' d d' : ℕ} → a ≡ a' → b ≡ b' → c ≡ c' → d ≡ d' → a ∷ b ∷ c ∷ d ∷ [] ≡ a' ∷ b' ∷ c' ∷ d' ∷ []
list_4 p q r s = cc

-- l is the encoding of the scalar value v
abbrev Codes : ℕ → List ℕ → Type 0
Codes v l = Scalar v × (encode v ≡ l)

back_3 : (a b c v : ℕ) → In 0xE0 0xEF a → Tail b → Tail c → v ≡ a % 16 * 4096 + b % 64 * 64 + c % 64 → 0x800 ≤ v → encode v ≡ a ∷ b ∷ c ∷ []
back_3 a b c v i h k e l = encode_3 v l (omega arith) ∙ list_3 (omega arith) (omega arith) (omega arith)

back_4 : (a b c d v : ℕ) → In 0xF0 0xF4 a → Tail b → Tail c → Tail d → v ≡ a % 8 * 262144 + b % 64 * 4096 + c % 64 * 64 + d % 64 → 0x10000 ≤ v → encode v ≡ a ∷ b ∷ c ∷ d ∷ []
back_4 a b c d v i h k m e l = encode_4 v l ∙ list_4 (omega arith) (omega arith) (omega arith) (omega arith)

pub char_scalar : (l : List ℕ) → Char l → Codes (code_of l) l
unfolding code_of
char_scalar l (utf8_1 {a} h) = simp (code_1 a 0 0 0 (omega arith)) ((omega arith, inl (omega arith)), encode_1 a (omega arith))
char_scalar l (utf8_2 {a} {b} h k) =
    simp (code_2 a b 0 0 (omega arith) (omega arith))
    ((omega arith, inl (omega arith)), encode_2 (a % 32 * 64 + b % 64) (omega arith) (omega arith) ∙ list_2 (omega arith) (omega arith))
char_scalar l (utf8_3a {a} {b} {c} e h k) =
    simp (code_3 a b c 0 (omega arith) (omega arith))
    ((omega arith, inl (omega arith)), back_3 a b c (a % 16 * 4096 + b % 64 * 64 + c % 64) (omega arith) (omega arith) k refl (omega arith))
char_scalar l (utf8_3b {a} {b} {c} i h k) =
    simp (code_3 a b c 0 (omega arith) (omega arith))
    ((omega arith, inl (omega arith)), back_3 a b c (a % 16 * 4096 + b % 64 * 64 + c % 64) (omega arith) h k refl (omega arith))
char_scalar l (utf8_3c {a} {b} {c} e h k) =
    simp (code_3 a b c 0 (omega arith) (omega arith))
    ((omega arith, inl (omega arith)), back_3 a b c (a % 16 * 4096 + b % 64 * 64 + c % 64) (omega arith) (omega arith) k refl (omega arith))
char_scalar l (utf8_3d {a} {b} {c} i h k) =
    simp (code_3 a b c 0 (omega arith) (omega arith))
    ((omega arith, inr (omega arith)), back_3 a b c (a % 16 * 4096 + b % 64 * 64 + c % 64) (omega arith) h k refl (omega arith))
char_scalar l (utf8_4a {a} {b} {c} {d} e h k m) =
    simp (code_4 a b c d (omega arith))
    ((omega arith, inr (omega arith)), back_4 a b c d (a % 8 * 262144 + b % 64 * 4096 + c % 64 * 64 + d % 64) (omega arith) (omega arith) k m refl (omega arith))
char_scalar l (utf8_4b {a} {b} {c} {d} i h k m) =
    simp (code_4 a b c d (omega arith))
    ((omega arith, inr (omega arith)), back_4 a b c d (a % 8 * 262144 + b % 64 * 4096 + c % 64 * 64 + d % 64) (omega arith) h k m refl (omega arith))
char_scalar l (utf8_4c {a} {b} {c} {d} e h k m) =
    simp (code_4 a b c d (omega arith))
    ((omega arith, inr (omega arith)), back_4 a b c d (a % 8 * 262144 + b % 64 * 4096 + c % 64 * 64 + d % 64) (omega arith) (omega arith) k m refl (omega arith))

-- ---- whole texts: the grammar and the encoding

pub text_encoded : {s : List ℕ} → Text s → Encoded s
text_encoded none = ends
text_encoded (more {l} {s} ch t) =
    subst (λ (k : List ℕ). Encoded (k ++ s)) (char_scalar l ch).1 (next (code_of l) (char_scalar l ch).0 (text_encoded t))

pub encoded_text : {s : List ℕ} → Encoded s → Text s
encoded_text ends = none
encoded_text (next c sc e) = more (char_encode c sc) (encoded_text e)

-- ---- whole texts: what the checker finds

-- s is a text, and the answer is Good; or it is one up to a place k, where no character stands, and the answer is that place
pub data Verdict (at : ℕ) (s : List ℕ) : Type 0 where
  good : Text s → utf8_from 0 at s ≡ None → Verdict at s
  bad : (k : ℕ) → k < length s → Text (take k s) → char_len (drop k s) ≡ 0 → utf8_from 0 at s ≡ Some (at + k) → Verdict at s

-- the verdict on t, behind a character l
behind : (at n : ℕ) (l t : List ℕ) → Char l → length l ≡ suc n → Verdict (at + suc n) t → Verdict at (l ++ t)
behind at n l t ch e (good x a) = good (more ch x) (first ∙ a)
  where
    first : utf8_from 0 at (l ++ t) ≡ utf8_from 0 (at + suc n) t
    first = utf8_step at (l ++ t) n (char_len_char l t ch ∙ e) ∙ ap (utf8_from 0 (at + suc n)) (drop_at l t (suc n) e)
behind at n l t ch e (bad k h x z a) =
    bad (length l + k) (omega (arith, length-append l t)) (rw take-append-add (more ch x)) (rw drop-append-add z)
    (first ∙ a ∙ ap Some (omega arith))
  where
    first : utf8_from 0 at (l ++ t) ≡ utf8_from 0 (at + suc n) t
    first = utf8_step at (l ++ t) n (char_len_char l t ch ∙ e) ∙ ap (utf8_from 0 (at + suc n)) (drop_at l t (suc n) e)

verdict_fuel : (fuel at : ℕ) (s : List ℕ) → length s ≤ fuel → Verdict at s
verdict_fuel zero at [] h = good none (utf8_end at [] refl)
verdict_fuel zero at (b ∷ s) h = absurd (omega arith)
verdict_fuel (suc f) at [] h = good none (utf8_end at [] refl)
verdict_fuel (suc f) at (b ∷ s) h = go (char_len (b ∷ s)) refl (head_view (b ∷ s)) (λ at' t l. verdict_fuel f at' t l)
  where
    go : (n : ℕ) → char_len (b ∷ s) ≡ n → Head (b ∷ s) n → ((at' : ℕ) (t : List ℕ) → length t ≤ f → Verdict at' t) → Verdict at (b ∷ s)
    go n e no_char rec = bad 0 (omega arith) none e (utf8_bad at (b ∷ s) (omega arith) e ∙ ap Some (omega arith))
    go n e (a_char {l} t {n = m} ch e2 q) rec =
        subst (Verdict at) (sym q) (behind at m l t ch e2 (rec (at + suc m) t (omega (arith, length-append l t, ap length q))))

pub verdict : (s : List ℕ) → Verdict 0 s
verdict s = verdict_fuel (length s) 0 s (omega arith)

-- the checker says Good of exactly the texts
pub good_text : (s : List ℕ) → utf8_of s ≡ None → Text s
unfolding utf8_of
good_text s e = go (verdict s)
  where
    go : Verdict 0 s → Text s
    go (good x a) = x
    go (bad k h x z a) = let z : ◌≡◌ {A = ℕ} 0 1 = cc in absurd (omega arith)

pub char_pos : {l : List ℕ} → Char l → 0 < length l
char_pos (utf8_1 h) = omega arith
char_pos (utf8_2 h k) = omega arith
char_pos (utf8_3a e h k) = omega arith
char_pos (utf8_3b i h k) = omega arith
char_pos (utf8_3c e h k) = omega arith
char_pos (utf8_3d i h k) = omega arith
char_pos (utf8_4a e h k m) = omega arith
char_pos (utf8_4b i h k m) = omega arith
char_pos (utf8_4c e h k m) = omega arith

-- a text in front is passed over
pub text_passed : {s : List ℕ} → Text s → (at : ℕ) (u : List ℕ) → utf8_from 0 at (s ++ u) ≡ utf8_from 0 (at + length s) u
text_passed none at u = ap (λ (n : ℕ). utf8_from 0 n u) (omega arith)
text_passed (more {l} {s = t} ch x) at u = go (length l) refl (λ at'. text_passed x at' u)
  where
    go : (n : ℕ) → length l ≡ n → ((at' : ℕ) → utf8_from 0 at' (t ++ u) ≡ utf8_from 0 (at' + length t) u) → utf8_from 0 at ((l ++ t) ++ u) ≡ utf8_from 0 (at + length (l ++ t)) u
    go zero e rec = absurd (omega (arith, char_pos ch))
    go (suc n) e rec =
        ap (utf8_from 0 at) (append_assoc l t u)
        ∙ utf8_step at (l ++ (t ++ u)) n (char_len_char l (t ++ u) ch ∙ e)
        ∙ ap (utf8_from 0 (at + suc n)) (drop_at l (t ++ u) (suc n) e)
        ∙ rec (at + suc n)
        ∙ ap (λ (m : ℕ). utf8_from 0 m u) (omega (arith, length-append l t))

-- ---- what the two answers mean, by the encoding alone

pub good_encoded : (s : List ℕ) → utf8_of s ≡ None → Encoded s
good_encoded s e = text_encoded (good_text s e)

pub encoded_good : (s : List ℕ) → Encoded s → utf8_of s ≡ None
unfolding utf8_of
encoded_good s e =
    ap (utf8_from 0 0) (sym (append-nil s)) ∙ text_passed (encoded_text e) 0 [] ∙ utf8_end (0 + length s) [] refl

-- up to p the text is encodings of scalar values, and at p stands no encoding of one
pub bad_means : (s : List ℕ) (p : ℕ) → utf8_of s ≡ Some p → (p < length s) × Encoded (take p s) × ((c : ℕ) (t : List ℕ) → Scalar c → drop p s ≡ encode c ++ t → ⊥)
unfolding utf8_of
bad_means s p e = go (verdict s)
  where
    go : Verdict 0 s → (p < length s) × Encoded (take p s) × ((c : ℕ) (t : List ℕ) → Scalar c → drop p s ≡ encode c ++ t → ⊥)
    go (good x a) = let z : ◌≡◌ {A = ℕ} 0 1 = cc in absurd (omega arith)
    go (bad k h x z a) =
        let q : 0 + k ≡ p = cc in
        let r : k ≡ p = omega arith in (
          omega arith,
          subst (λ (n : ℕ). Encoded (take n s)) r (text_encoded x),
          λ c t sc m. let w : length (encode c) ≡ 0 = sym (char_len_char (encode c) t (char_encode c sc)) ∙ ap char_len (sym m) ∙ ap (λ (n : ℕ). char_len (drop n s)) (sym r) ∙ z in
              omega (arith, char_pos (char_encode c sc)),
        )

-- and the other way round: such a place is the answer
pub means_bad : (s : List ℕ) (p : ℕ) → p < length s → Encoded (take p s) → ((c : ℕ) (t : List ℕ) → Scalar c → drop p s ≡ encode c ++ t → ⊥) → utf8_of s ≡ Some p
unfolding utf8_of
means_bad s p h x none_here =
    ap (utf8_from 0 0) (sym (take-append-drop p s))
    ∙ text_passed (encoded_text x) 0 (drop p s)
    ∙ ap (λ (n : ℕ). utf8_from 0 n (drop p s)) (omega (arith, length-take-le p s (omega arith)))
    ∙ utf8_bad p (drop p s) (omega (arith, length-drop p s)) (go (char_len (drop p s)) refl (head_view (drop p s)))
  where
    go : (n : ℕ) → char_len (drop p s) ≡ n → Head (drop p s) n → char_len (drop p s) ≡ 0
    go n e no_char = e
    go n e (a_char {l} t ch f q) =
        absurd (none_here (code_of l) t (char_scalar l ch).0 (q ∙ ap (λ (k : List ℕ). k ++ t) (sym (char_scalar l ch).1)))

-- ---- encoding into a buffer

pub encoded_len_1 : (c : ℕ) → c < 0x80 → encoded_len c ≡ 1
unfolding encoded_len
encoded_len_1 c h = simp (lt-ltb c 0x80 h)

pub encoded_len_2 : (c : ℕ) → 0x80 ≤ c → c < 0x800 → encoded_len c ≡ 2
unfolding encoded_len
encoded_len_2 c l h = simp (le-ltb c 0x80 l, lt-ltb c 0x800 h)

pub encoded_len_3 : (c : ℕ) → 0x800 ≤ c → c < 0x10000 → encoded_len c ≡ 3
unfolding encoded_len
encoded_len_3 c l h = simp (le-ltb c 0x80 (omega arith), le-ltb c 0x800 l, lt-ltb c 0x10000 h)

pub encoded_len_4 : (c : ℕ) → 0x10000 ≤ c → encoded_len c ≡ 4
unfolding encoded_len
encoded_len_4 c l = simp (le-ltb c 0x80 (omega arith), le-ltb c 0x800 (omega arith), le-ltb c 0x10000 l)

-- the stores at the front of a buffer, as one list
set_1 : (o : List ℕ) (a : ℕ) → 1 ≤ length o → set o 0 a ≡ (a ∷ []) ++ drop 1 o
set_1 [] a h = absurd (omega arith)
set_1 (x ∷ o) a h = refl

set_2 : (o : List ℕ) (a b : ℕ) → 2 ≤ length o → set (set o 0 a) 1 b ≡ (a ∷ b ∷ []) ++ drop 2 o
set_2 [] a b h = absurd (omega arith)
set_2 (x ∷ []) a b h = absurd (omega arith)
set_2 (x ∷ y ∷ o) a b h = refl

set_3 : (o : List ℕ) (a b c : ℕ) → 3 ≤ length o → set (set (set o 0 a) 1 b) 2 c ≡ (a ∷ b ∷ c ∷ []) ++ drop 3 o
set_3 [] a b c h = absurd (omega arith)
set_3 (x ∷ []) a b c h = absurd (omega arith)
set_3 (x ∷ y ∷ []) a b c h = absurd (omega arith)
set_3 (x ∷ y ∷ z ∷ o) a b c h = refl

set_4 : (o : List ℕ) (a b c d : ℕ) → 4 ≤ length o → set (set (set (set o 0 a) 1 b) 2 c) 3 d ≡ (a ∷ b ∷ c ∷ d ∷ []) ++ drop 4 o
set_4 [] a b c d h = absurd (omega arith)
set_4 (x ∷ []) a b c d h = absurd (omega arith)
set_4 (x ∷ y ∷ []) a b c d h = absurd (omega arith)
set_4 (x ∷ y ∷ z ∷ []) a b c d h = absurd (omega arith)
set_4 (x ∷ y ∷ z ∷ w ∷ o) a b c d h = refl

pub put_1 : (c : ℕ) (o : List ℕ) → c < 0x80 → encoded_len c ≤ length o → set o 0 c ≡ encode c ++ drop (encoded_len c) o
put_1 c o h r = simp (encode_1 c h, encoded_len_1 c h) (set_1 o c (omega (arith, encoded_len_1 c h)))

pub put_2 : (c : ℕ) (o : List ℕ) → 0x80 ≤ c → c < 0x800 → encoded_len c ≤ length o → set (set o 0 (0xC0 + c / 64)) 1 (0x80 + c % 64) ≡ encode c ++ drop (encoded_len c) o
put_2 c o l h r = simp (encode_2 c l h, encoded_len_2 c l h) (set_2 o _ _ (omega (arith, encoded_len_2 c l h)))

pub put_3 : (c : ℕ) (o : List ℕ) → 0x800 ≤ c → c < 0x10000 → encoded_len c ≤ length o → set (set (set o 0 (0xE0 + c / 4096)) 1 (0x80 + c / 64 % 64)) 2 (0x80 + c % 64) ≡ encode c ++ drop (encoded_len c) o
put_3 c o l h r = simp (encode_3 c l h, encoded_len_3 c l h) (set_3 o _ _ _ (omega (arith, encoded_len_3 c l h)))

pub put_4 : (c : ℕ) (o : List ℕ) → 0x10000 ≤ c → encoded_len c ≤ length o → set (set (set (set o 0 (0xF0 + c / 262144)) 1 (0x80 + c / 4096 % 64)) 2 (0x80 + c / 64 % 64)) 3 (0x80 + c % 64) ≡ encode c ++ drop (encoded_len c) o
put_4 c o l r = simp (encode_4 c l, encoded_len_4 c l) (set_4 o _ _ _ _ (omega (arith, encoded_len_4 c l)))

-- the decision of Scalar
pub scalar_true : (c : ℕ) → scalar c ≡ true → Scalar c
unfolding scalar
scalar_true c = cond_cases Yes (ltb c 0xD800) true (within 0xE000 0x10FFFF c) (λ e t. low (ltb-true c 0xD800 e)) (λ e t. high (within_true 0xE000 0x10FFFF c t))
  where
    Yes : Bool → Type 0
    Yes t = t ≡ true → Scalar c

    low : c < 0xD800 → Scalar c
    low h = (omega arith, inl h)

    high : In 0xE000 0x10FFFF c → Scalar c
    high h = (omega arith, inr (omega arith))

pub scalar_scalar : (c : ℕ) → Scalar c → scalar c ≡ true
unfolding scalar
scalar_scalar c s = ⊎_elim (λ l. simp (lt-ltb c 0xD800 l)) (λ l. simp (le-ltb c 0xD800 (omega arith), in_within 0xE000 0x10FFFF c (omega arith))) s.1

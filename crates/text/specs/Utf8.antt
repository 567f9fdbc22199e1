-- UTF-8 as RFC 3629 has it. Document 01: refusal 2, "not UTF-8", stands at "the first byte of the first bad sequence".
-- A reader has to believe only `Scalar`, `encode` and `Encoded`: that the grammar and the decision below agree with them is proved in proofs/Utf8Agree.antt.
use Rattle.std.specs.Prelude.{Some, None, Option, Result, Ok, Err}
use Rattle.std.specs.Prelude.{ℕ, zero, suc, ◌+◌, ◌*◌, ◌/◌, ◌%◌, ◌≤◌, ◌<◌, List, [], ◌∷◌, ◌++◌, Bool, true, cond, ◌&&◌, ◌≡◌, ◌⊎◌, length, get_or, drop, ltb, leb, eqb}
use Rattle.text.specs.declared.utf8.EncodeError.{EncodeError}
use Rattle.text.specs.declared.utf8.EncodeError.TheVariants.{NotScalar, NoRoom}
use Rattle.text.specs.Classes.{within}

-- ---- section 3: the encoding of a scalar value

-- A scalar value: U+0000 to U+10FFFF without the surrogates.
abbrev pub Scalar : ℕ → Type 0
Scalar c = (c ≤ 0x10FFFF) × ((c < 0xD800) ⊎ (0xDFFF < c))

-- The bytes of a scalar value.
unfoldable pub encode : ℕ → List ℕ
encode c =
    cond (ltb c 0x80) (c ∷ [])
    (cond (ltb c 0x800) ((0xC0 + c / 64) ∷ (0x80 + c % 64) ∷ [])
    (cond (ltb c 0x10000) ((0xE0 + c / 4096) ∷ (0x80 + c / 64 % 64) ∷ (0x80 + c % 64) ∷ [])
    ((0xF0 + c / 262144) ∷ (0x80 + c / 4096 % 64) ∷ (0x80 + c / 64 % 64) ∷ (0x80 + c % 64) ∷ [])))

-- The text is the encodings of scalar values, one after the other.
pub data Encoded : List ℕ → Type 0 where
  ends : Encoded []
  next : (c : ℕ) {s : List ℕ} → Scalar c → Encoded s → Encoded (encode c ++ s)

-- ---- section 4: the grammar

-- x is one of lo to hi.
abbrev pub In : ℕ → ℕ → ℕ → Type 0
In lo hi x = (lo ≤ x) × (x ≤ hi)

-- UTF8-tail = %x80-BF
abbrev pub Tail : ℕ → Type 0
Tail x = In 0x80 0xBF x

-- UTF8-char, with a constructor for each alternative of the grammar.
pub data Char : List ℕ → Type 0 where
  utf8_1 : {a : ℕ} → a ≤ 0x7F → Char (a ∷ [])
  utf8_2 : {a b : ℕ} → In 0xC2 0xDF a → Tail b → Char (a ∷ b ∷ [])
  utf8_3a : {a b c : ℕ} → a ≡ 0xE0 → In 0xA0 0xBF b → Tail c → Char (a ∷ b ∷ c ∷ [])
  utf8_3b : {a b c : ℕ} → In 0xE1 0xEC a → Tail b → Tail c → Char (a ∷ b ∷ c ∷ [])
  utf8_3c : {a b c : ℕ} → a ≡ 0xED → In 0x80 0x9F b → Tail c → Char (a ∷ b ∷ c ∷ [])
  utf8_3d : {a b c : ℕ} → In 0xEE 0xEF a → Tail b → Tail c → Char (a ∷ b ∷ c ∷ [])
  utf8_4a : {a b c d : ℕ} → a ≡ 0xF0 → In 0x90 0xBF b → Tail c → Tail d → Char (a ∷ b ∷ c ∷ d ∷ [])
  utf8_4b : {a b c d : ℕ} → In 0xF1 0xF3 a → Tail b → Tail c → Tail d → Char (a ∷ b ∷ c ∷ d ∷ [])
  utf8_4c : {a b c d : ℕ} → a ≡ 0xF4 → In 0x80 0x8F b → Tail c → Tail d → Char (a ∷ b ∷ c ∷ d ∷ [])

-- UTF8-octets = *( UTF8-char )
pub data Text : List ℕ → Type 0 where
  none : Text []
  more : {l s : List ℕ} → Char l → Text s → Text (l ++ s)

-- ---- the grammar as a decision over the bytes

-- UTF8-tail.
abbrev pub tail_byte : ℕ → Bool
tail_byte b = within 0x80 0xBF b

-- The second byte of UTF8-3 and UTF8-4, by the first.
unfoldable pub second_byte : ℕ → ℕ → Bool
second_byte a b =
    cond (eqb a 0xE0) (within 0xA0 0xBF b)
    (cond (eqb a 0xED) (within 0x80 0x9F b)
    (cond (eqb a 0xF0) (within 0x90 0xBF b)
    (cond (eqb a 0xF4) (within 0x80 0x8F b) (tail_byte b))))

-- What stands behind the first byte of a UTF8-3.
unfoldable pub behind_three : ℕ → ℕ → ℕ → Bool
behind_three a b c = second_byte a b && tail_byte c

-- What stands behind the first byte of a UTF8-4.
unfoldable pub behind_four : ℕ → ℕ → ℕ → ℕ → Bool
behind_four a b c d = behind_three a b c && tail_byte d

-- The width of the character that four bytes begin with; 0 where they begin with none.
unfoldable pub width_of : ℕ → ℕ → ℕ → ℕ → ℕ
width_of a b c d =
    cond (leb a 0x7F) 1
    (cond (within 0xC2 0xDF a) (cond (tail_byte b) 2 0)
    (cond (within 0xE0 0xEF a) (cond (behind_three a b c) 3 0)
    (cond (within 0xF0 0xF4 a) (cond (behind_four a b c d) 4 0) 0)))

-- The width of the character at the front of s; 0 where there is none. A byte past the end counts as 0, which is no UTF8-tail.
unfoldable pub char_len : List ℕ → ℕ
char_len [] = 0
char_len (a ∷ s) = width_of a (get_or s 0 0) (get_or s 1 0) (get_or s 2 0)

-- The answer at a place, by the width of the character there: a bad sequence, or what the rest says.
abbrev pub by_width : ℕ → (ℕ → Option ℕ) → ℕ → Option ℕ
by_width at rest zero = Some at
by_width at rest (suc n) = rest n

-- What the text is from the place `at` on, behind k bytes of a character that was judged already.
unfoldable pub utf8_from : ℕ → ℕ → List ℕ → Option ℕ
utf8_from k at [] = None
utf8_from (suc k) at (b ∷ s) = utf8_from k (suc at) s
utf8_from zero at (b ∷ s) = by_width at (λ n. utf8_from n (suc at) s) (char_len (b ∷ s))

-- What a whole text is: UTF-8, or not, with the place of the first bad sequence.
unfoldable pub utf8_of : List ℕ → Option ℕ
utf8_of s = utf8_from 0 0 s

-- ---- decoding

-- The code point of a character's four bytes.
unfoldable pub code_of4 : ℕ → ℕ → ℕ → ℕ → ℕ
code_of4 a b c d =
    cond (ltb a 0x80) a
    (cond (ltb a 0xE0) (a % 32 * 64 + b % 64)
    (cond (ltb a 0xF0) (a % 16 * 4096 + b % 64 * 64 + c % 64) (a % 8 * 262144 + b % 64 * 4096 + c % 64 * 64 + d % 64)))

-- The code point of the character at the front of s.
unfoldable pub code_of : List ℕ → ℕ
code_of s = code_of4 (get_or s 0 0) (get_or s 1 0) (get_or s 2 0) (get_or s 3 0)

-- ---- encoding into a buffer

-- Scalar values, as a test.
unfoldable pub scalar : ℕ → Bool
scalar c = cond (ltb c 0xD800) true (within 0xE000 0x10FFFF c)

-- How many bytes an encoding has.
unfoldable pub encoded_len : ℕ → ℕ
encoded_len c = cond (ltb c 0x80) 1 (cond (ltb c 0x800) 2 (cond (ltb c 0x10000) 3 4))

-- Encoding c at the front of a buffer of so many bytes.
unfoldable pub encode_answer : ℕ → ℕ → Result ℕ EncodeError
encode_answer c room = cond (scalar c) (cond (leb (encoded_len c) room) (Ok (encoded_len c)) (Err NoRoom)) (Err NotScalar)

-- The buffer afterwards: a refused encoding leaves it as it was.
unfoldable pub encoded_into : ℕ → List ℕ → List ℕ
encoded_into c out = cond (scalar c) (cond (leb (encoded_len c) (length out)) (encode c ++ drop (encoded_len c) out) out) out

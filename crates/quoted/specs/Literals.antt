-- Strings, byte strings, chars and byte literals (document 01, modules 3, 4 and 9), said plainly: each with what it decodes to, and what stands behind it.
-- "A raw string ends at the first quote with its number of hashes." "In a char only one [`\x`]; in byte literals any byte."
use Rattle.std.specs.Prelude.{ℕ, ◌<◌, Bool, true, false, List, ◌∷◌, ◌++◌, ◌≡◌, drop, length, replicate}
use Rattle.text.specs.Utf8.{Scalar, encode}
use Rattle.escapes.specs.declared.answers.Mode.TheVariants.{Str, Char, Bytes}
use Rattle.escaped.specs.Escape.{Escape, Meant}
use Rattle.escaped.specs.Escape.Meant.{byte, point}
use Rattle.quoted.specs.Bodies.{Inside}

-- So many hashes.
abbrev pub hashes : ℕ → List ℕ
hashes n = replicate n 0x23

-- A quote with n hashes stands at the front.
abbrev pub RawEnds : ℕ → List ℕ → Type 0
RawEnds n s = (t : List ℕ) × (s ≡ 0x22 ∷ (hashes n ++ t))

-- `Raw s d t`: s, from behind the `r`, is n hashes and a quote, the contents d up to the first quote with n hashes, that, and then t.
pub record Raw (s d t : List ℕ) : Type 0 where
  pub count : ℕ
  pub split : s ≡ hashes count ++ 0x22 ∷ (d ++ 0x22 ∷ (hashes count ++ t))
  pub first : (k : ℕ) → k < length d → RawEnds count (drop k (d ++ 0x22 ∷ (hashes count ++ t))) → ⊥

-- A string at the front of s that decodes to d, and then t.
pub data StringAt : List ℕ → List ℕ → List ℕ → Type 0 where
  quoted : {s d t : List ℕ} → Inside Str s d t → StringAt (0x22 ∷ s) d t
  raw : {s d t : List ℕ} → Raw s d t → StringAt (0x72 ∷ s) d t

-- The same of a byte string.
pub data ByteStringAt : List ℕ → List ℕ → List ℕ → Type 0 where
  quoted : {s d t : List ℕ} → Inside Bytes s d t → ByteStringAt (0x62 ∷ 0x22 ∷ s) d t
  raw : {s d t : List ℕ} → Raw s d t → ByteStringAt (0x62 ∷ 0x72 ∷ s) d t

-- A string or, with true, a byte string at the front of s that decodes to d, and then t.
abbrev pub LiteralAt : Bool → List ℕ → List ℕ → List ℕ → Type 0
LiteralAt false s d t = StringAt s d t
LiteralAt true s d t = ByteStringAt s d t

-- The code point that an escape means.
abbrev pub point_of : Meant → ℕ
point_of (byte b) = b
point_of (point c) = c

-- A char at the front of s with its code point, and then t.
pub data CharAt : List ℕ → ℕ → List ℕ → Type 0 where
  itself : {c : ℕ} {t : List ℕ} → Scalar c → (c ≡ 0x5C → ⊥) → CharAt (0x27 ∷ (encode c ++ 0x27 ∷ t)) c t
  escaped : {v : Meant} {s t : List ℕ} → Escape Char s v (0x27 ∷ t) → CharAt (0x27 ∷ 0x5C ∷ s) (point_of v) t

-- A byte literal at the front of s with its byte, and then t.
pub data ByteAt : List ℕ → ℕ → List ℕ → Type 0 where
  itself : {b : ℕ} {t : List ℕ} → b < 0x80 → (b ≡ 0x5C → ⊥) → ByteAt (0x62 ∷ 0x27 ∷ b ∷ 0x27 ∷ t) b t
  escaped : {b : ℕ} {s t : List ℕ} → Escape Bytes s (byte b) (0x27 ∷ t) → ByteAt (0x62 ∷ 0x27 ∷ 0x5C ∷ s) b t

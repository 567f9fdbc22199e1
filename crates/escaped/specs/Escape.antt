-- Escapes (document 01, module 3), said plainly: what may stand behind a `\`, and what it means. "`\u{}` takes 1 to 6 hex digits, no surrogate, nothing
-- above U+10FFFF. In a string `\x` takes up to four in a row until they form one UTF-8 character; in a char only one; in byte literals and byte strings
-- any byte."
use Rattle.std.specs.Prelude.{ℕ, ◌+◌, ◌*◌, ◌<◌, ◌≤◌, List, [], ◌∷◌, ◌++◌, ◌≡◌, length}
use Rattle.text.specs.Utf8.{Scalar, encode}
use Rattle.hexes.specs.Hex.{hex_of}
use Rattle.escapes.specs.declared.answers.EscapeAnswer.{EscapeAnswer}
use Rattle.escapes.specs.declared.answers.EscapeAnswer.TheVariants.{Ascii, Utf8}
use Rattle.escapes.specs.declared.answers.Mode.{Mode}
use Rattle.escapes.specs.declared.answers.Mode.TheVariants.{Str, Char, Bytes}

-- What an escape means: a byte, or a character by its code point.
pub data Meant : Type 0 where
  byte : ℕ → Meant
  point : ℕ → Meant

-- A letter, and the byte that it means: `\'` `\"` `\\` `\n` `\r` `\t` `\0`.
pub data Letter : ℕ → ℕ → Type 0 where
  apostrophe : Letter 0x27 0x27
  quote : Letter 0x22 0x22
  backslash : Letter 0x5C 0x5C
  n : Letter 0x6E 0x0A
  r : Letter 0x72 0x0D
  t : Letter 0x74 0x09
  nought : Letter 0x30 0x00

-- Hex digits behind others that come to `before`, and what they all come to.
pub data Hex : ℕ → List ℕ → ℕ → Type 0 where
  none : {v : ℕ} → Hex v [] v
  more : {before d v : ℕ} {ds : List ℕ} → hex_of d < 16 → Hex (before * 16 + hex_of d) ds v → Hex before (d ∷ ds) v

-- Bytes, each written as `\x` and two hex digits, and then t.
pub data Written : List ℕ → List ℕ → List ℕ → Type 0 where
  none : {t : List ℕ} → Written [] t t
  more : {h l b : ℕ} {bs s t : List ℕ} → Hex 0 (h ∷ l ∷ []) b → Written bs s t → Written (b ∷ bs) (0x5C ∷ 0x78 ∷ h ∷ l ∷ s) t

-- `Escape m s v t`: behind a backslash stands s, which is an escape that means v, and then t.
pub data Escape : Mode → List ℕ → Meant → List ℕ → Type 0 where
  letter : {m : Mode} {a b : ℕ} {t : List ℕ} → Letter a b → Escape m (a ∷ t) (byte b) t
  any_byte : {h l b : ℕ} {t : List ℕ} → Hex 0 (h ∷ l ∷ []) b → Escape Bytes (0x78 ∷ h ∷ l ∷ t) (byte b) t
  one_byte : {h l c : ℕ} {t : List ℕ} → Hex 0 (h ∷ l ∷ []) c → c < 0x80 → Escape Char (0x78 ∷ h ∷ l ∷ t) (point c) t
  bytes : {c : ℕ} {s t : List ℕ} → Scalar c → Written (encode c) (0x5C ∷ s) t → Escape Str s (point c) t
  unicode : {m : Mode} {c : ℕ} {ds t : List ℕ} → Hex 0 ds c → 1 ≤ length ds → length ds ≤ 6 → Scalar c → Escape m (0x75 ∷ 0x7B ∷ (ds ++ 0x7D ∷ t)) (point c) t

-- The reader's answer says that an escape of `len` bytes means v.
abbrev pub Says : EscapeAnswer → Meant → ℕ → Type 0
Says a (byte b) len = a ≡ Ascii b len
Says a (point c) len = a ≡ Utf8 c len

-- The form that the bytes of each kind of entry have (document 01, module 9): "Kinds: 1 `(` 2 `)` 3 `[` 4 `]` 5 `{` 6 `}` 7 `,` 8 `:` 9 name, 10 raw name,
-- 11 integer, 12 float,
-- 13 char, 14 string, 15 byte string, 16 attribute. Detail: width 1 to 8 for i8, i16, i32, i64, u8, u16, u32, u64; 0, 32 or 64 for a float's suffix; code
-- point; decoded length; extensions; else 0."
use Rattle.std.specs.Prelude.{ℕ, List, [], ◌∷◌, ◌++◌, ◌⊎◌, ◌≡◌, drop, length, take}
use Rattle.names.specs.Names.{IsName, IsRawName}
use Rattle.integers.specs.Front.{front_of}
use Rattle.integers.specs.Width.{code_of, first_fit}
use Rattle.integers.specs.declared.width.Width.{Width}
use Rattle.floats.specs.Grammar.{Float, Signable}
use Rattle.floats.specs.Judged.{stripped}
use Rattle.written.specs.Written.{IsWritten, magnitude_in, suffix_in, written_len}
use Rattle.quoted.specs.Literals.{ByteAt, ByteStringAt, CharAt, StringAt}

-- A mark and its kind.
pub data Mark : ℕ → ℕ → Type 0 where
  round : Mark 0x28 1
  round_end : Mark 0x29 2
  square : Mark 0x5B 3
  square_end : Mark 0x5D 4
  curly : Mark 0x7B 5
  curly_end : Mark 0x7D 6
  comma : Mark 0x2C 7
  colon : Mark 0x3A 8

-- `inf` or `NaN`.
pub data Special : List ℕ → Type 0 where
  inf : Special (0x69 ∷ 0x6E ∷ 0x66 ∷ [])
  nan : Special (0x4E ∷ 0x61 ∷ 0x4E ∷ [])

-- A float's suffix and what it says: none, `f32` or `f64`.
pub data Suffix : ℕ → List ℕ → Type 0 where
  none : Suffix 0 []
  f32 : Suffix 32 (0x66 ∷ 0x33 ∷ 0x32 ∷ [])
  f64 : Suffix 64 (0x66 ∷ 0x36 ∷ 0x34 ∷ [])

-- `inf` or `NaN`, alone or with a suffix: the names that are floats.
pub data FloatName : ℕ → List ℕ → Type 0 where
  named : {d : ℕ} (w : List ℕ) {x : List ℕ} → Special w → Suffix d x → FloatName d (w ++ x)

-- A float: a text of the grammar once its underscores are left out, and its suffix; or such a name with a sign or without.
pub data FloatForm : ℕ → List ℕ → Type 0 where
  number : {d : ℕ} (w : List ℕ) {x : List ℕ} → Float (stripped w) → Suffix d x → FloatForm d (w ++ x)
  special : {d : ℕ} {w : List ℕ} → Signable (FloatName d) w → FloatForm d w

-- The width of an integer: its suffix's, or without one the first that fits.
abbrev pub WidthOf : Width → List ℕ → Type 0
WidthOf w s = ((suffix_in s).code ≡ code_of w) ⊎ (((suffix_in s).code ≡ 0) × (first_fit (front_of s).minus (magnitude_in s) ≡ w))

-- `Form kind detail s t`: at the front of s stand an entry's bytes, of this kind and with this detail, and then t.
pub data Form : ℕ → ℕ → List ℕ → List ℕ → Type 0 where
  mark : {a k : ℕ} {t : List ℕ} → Mark a k → Form k 0 (a ∷ t) t
  name : {n : ℕ} {s : List ℕ} → IsName s n → ((d : ℕ) → FloatName d (take n s) → ⊥) → Form 9 0 s (drop n s)
  raw_name : {n : ℕ} {s : List ℕ} → IsRawName s n → Form 10 0 s (drop n s)
  integer : {w : Width} {s : List ℕ} → IsWritten w s → WidthOf w s → Form 11 (code_of w) s (drop (written_len s) s)
  byte : {b : ℕ} {s t : List ℕ} → ByteAt s b t → Form 11 5 s t
  float : {d : ℕ} {w t : List ℕ} → FloatForm d w → Form 12 d (w ++ t) t
  char : {c : ℕ} {s t : List ℕ} → CharAt s c t → Form 13 c s t
  string : {d s t : List ℕ} → StringAt s d t → Form 14 (length d) s t
  byte_string : {d s t : List ℕ} → ByteStringAt s d t → Form 15 (length d) s t
  attribute : {x : ℕ} (w : List ℕ) {t : List ℕ} → Form 16 x (0x23 ∷ (w ++ 0x5D ∷ t)) t

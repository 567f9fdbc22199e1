-- The eight widths (document 01, module 9): "width 1 to 8 for i8, i16, i32, i64, u8, u16, u32, u64", their suffixes, and the numbers that they hold.
use Rattle.std.specs.Prelude.{ℕ, ◌-◌, ◌^◌, Bool, true, false, cond, ◌||◌, List, [], ◌∷◌, leb, eqb, get_or}
use Rattle.integers.specs.declared.width.Width.{Width}
use Rattle.integers.specs.declared.width.Width.TheVariants.{I8, I16, I32, I64, U8, U16, U32, U64}
use Rattle.integers.specs.declared.ident.Found.{Found}
use Rattle.integers.specs.Words.{Word, first_of}

-- What is said of a width: its number, whether it holds numbers below 0, how many bits it has, and the letters of its suffix.
pub record Row : Type 0 where
  pub code : ℕ
  pub signed : Bool
  pub bits : ℕ
  pub letters : List ℕ

-- The table of the eight widths: i8, i16, i32, i64, u8, u16, u32, u64.
abbrev pub row : Width → Row
row I8 = record { code = 1; signed = true; bits = 8; letters = 0x69 ∷ 0x38 ∷ [] }
row I16 = record { code = 2; signed = true; bits = 16; letters = 0x69 ∷ 0x31 ∷ 0x36 ∷ [] }
row I32 = record { code = 3; signed = true; bits = 32; letters = 0x69 ∷ 0x33 ∷ 0x32 ∷ [] }
row I64 = record { code = 4; signed = true; bits = 64; letters = 0x69 ∷ 0x36 ∷ 0x34 ∷ [] }
row U8 = record { code = 5; signed = false; bits = 8; letters = 0x75 ∷ 0x38 ∷ [] }
row U16 = record { code = 6; signed = false; bits = 16; letters = 0x75 ∷ 0x31 ∷ 0x36 ∷ [] }
row U32 = record { code = 7; signed = false; bits = 32; letters = 0x75 ∷ 0x33 ∷ 0x32 ∷ [] }
row U64 = record { code = 8; signed = false; bits = 64; letters = 0x75 ∷ 0x36 ∷ 0x34 ∷ [] }

-- The paper's number of a width.
abbrev pub code_of : Width → ℕ
code_of width = (row width).code

-- The width of a number; the last also for any other number.
unfoldable pub width_at : ℕ → Width
width_at code = get_or (U64 ∷ I8 ∷ I16 ∷ I32 ∷ I64 ∷ U8 ∷ U16 ∷ U32 ∷ U64 ∷ []) code U64

-- The largest magnitude of a width of so many bits: without a minus, and after one.
abbrev pub limit_of : (signed : Bool) (bits : ℕ) (minus : Bool) → ℕ
limit_of false bits false = 2 ^ bits - 1
limit_of false bits true = 0
limit_of true bits false = 2 ^ (bits - 1) - 1
limit_of true bits true = 2 ^ (bits - 1)

-- The same by the width's number.
unfoldable pub limit_at : (code : ℕ) (minus : Bool) → ℕ
limit_at code minus = limit_of (row (width_at code)).signed (row (width_at code)).bits minus

-- The width of 64 bits.
abbrev pub widest : (minus : Bool) → ℕ
widest minus = cond minus 4 8

-- The first of u8, u16, u32, u64 that fits; after a minus, of i8 to i64.
unfoldable pub first_fit : (minus : Bool) (magnitude : ℕ) → Width
first_fit true m = cond (leb m (limit_of true 8 true)) I8 (cond (leb m (limit_of true 16 true)) I16 (cond (leb m (limit_of true 32 true)) I32 I64))
first_fit false m = cond (leb m (limit_of false 8 false)) U8 (cond (leb m (limit_of false 16 false)) U16 (cond (leb m (limit_of false 32 false)) U32 U64))

-- The letters of a width's suffix.
unfoldable pub suffix_word : ℕ → List ℕ
suffix_word code = (row (width_at code)).letters

-- A width's suffix and its number.
abbrev pub suffix : ℕ → Word
suffix code = record { letters = suffix_word code; says = code }

-- The suffix at the front of a part.
unfoldable pub suffix_of : List ℕ → Found
suffix_of t = first_of (suffix 1 ∷ suffix 2 ∷ suffix 3 ∷ suffix 4 ∷ suffix 5 ∷ suffix 6 ∷ suffix 7 ∷ suffix 8 ∷ []) t

-- Every suffix begins with an i or a u.
abbrev pub suffix_first : ℕ → Bool
suffix_first b = eqb b 0x69 || eqb b 0x75

-- The number written at a place (document 01): "Typed integer at a place, in one of eight widths." "A typed read answers the value and the place behind
-- it; with another suffix it is 27, and a byte literal is u8." Written are a sign, the prefix of a base, digits below the base with underscores between
-- them, and a suffix.
use Rattle.std.specs.Prelude.{ℕ, ◌+◌, Bool, List, [], ◌∷◌, ◌⊎◌, ◌≡◌, ℤ, pos, length, take, drop, Ok}
use Rattle.text.specs.Classes.{int_char}
use Rattle.text.specs.Runs.{run}
use Rattle.text.specs.Words.{starts_with}
use Rattle.digits.specs.Value.{value_of}
use Rattle.integers.specs.Front.{front_of}
use Rattle.integers.specs.Range.{InWidth, Reads, signed_of}
use Rattle.integers.specs.Width.{code_of, row, suffix_of}
use Rattle.integers.specs.declared.ident.Found.{Found}
use Rattle.integers.specs.declared.width.Width.{Width}
use Rattle.integers.specs.declared.width.Width.TheVariants.{U8}
use Rattle.strings.specs.Chars.{byte_of}
use Rattle.sarridok.specs.declared.integer_call.Typed.{Typed}
use Rattle.sarridok.specs.Typed.{signed_number}

-- A width holds numbers below 0.
abbrev pub is_signed : Width → Bool
is_signed width = (row width).signed

-- How many bits a width has.
abbrev pub bits_of : Width → ℕ
bits_of width = (row width).bits

-- What stands behind sign and prefix.
abbrev pub unprefixed : List ℕ → List ℕ
unprefixed s = drop (front_of s).end s

-- The digits: the integer characters there.
abbrev pub digits_in : List ℕ → List ℕ
digits_in s = take (run int_char (unprefixed s)) (unprefixed s)

-- What stands behind the digits.
abbrev pub behind_digits : List ℕ → List ℕ
behind_digits s = drop (run int_char (unprefixed s)) (unprefixed s)

-- The suffix there.
abbrev pub suffix_in : List ℕ → Found
suffix_in s = suffix_of (behind_digits s)

-- The digits' value in the prefix's base.
abbrev pub magnitude_in : List ℕ → ℕ
magnitude_in s = value_of (front_of s).base (digits_in s)

-- The number written: that value with its sign.
abbrev pub written : List ℕ → ℤ
written s = signed_of (front_of s).minus (magnitude_in s)

-- How many bytes it is written with: sign, prefix, digits and suffix.
abbrev pub written_len : List ℕ → ℕ
written_len s = (front_of s).end + (length (digits_in s) + (suffix_in s).end)

-- A number of the width is written: its digits read and it fits, and no other suffix stands behind it.
pub record IsWritten (width : Width) (s : List ℕ) : Type 0 where
  pub digits : Reads (is_signed width) (bits_of width) (front_of s).minus (front_of s).base (digits_in s) (magnitude_in s)
  pub suffix : ((suffix_in s).code ≡ 0) ⊎ ((suffix_in s).code ≡ code_of width)

-- The number that is answered for a part at a place: the one written there, a number of the width; the place behind it is behind its digits and its suffix.
pub record AsWritten (width : Width) (s : List ℕ) (place : ℕ) (t : Typed) : Type 0 where
  pub number_is : signed_number t.number ≡ written s
  pub fits : InWidth (is_signed width) (bits_of width) (signed_number t.number)
  pub end_is : t.end ≡ place + written_len s

-- A byte literal stands at the front: `b'`.
abbrev pub byte_literal : List ℕ → Bool
byte_literal s = starts_with (0x62 ∷ 0x27 ∷ []) s

-- What is answered for a byte literal at a place: it is u8, the number is its byte, and the place is behind it.
pub record AsByte (width : Width) (s : List ℕ) (place : ℕ) (t : Typed) : Type 0 where
  pub byte : ℕ
  pub len : ℕ
  pub read : byte_of s ≡ Ok (len, byte)
  pub width_is : width ≡ U8
  pub number_is : signed_number t.number ≡ pos byte
  pub end_is : t.end ≡ place + len

-- When the call `integer` refuses (document 01, "Refusal numbers"), said plainly over the text and the number written: "6: text ends where a character is
-- needed; end." "7: integer expected. 8: underscore in front. 9: digit not below the base. 10: out of bounds." "27: entry or suffix of another kind." "A
-- suffix is skipped after a refusal, but not after 8 or 9." "With another suffix it is 27, and a byte literal is u8."
use Rattle.std.specs.Prelude.{Ok, ℕ, ◌+◌, ◌<◌, true, false, cond, List, [], ◌∷◌, ◌⊎◌, ◌≡◌, eqb, length, drop, get_or}
use Rattle.text.specs.Judged.{judged_of, place_fits}
use Rattle.hexes.specs.Hex.{hex_of}
use Rattle.escaped.specs.Escape.{Hex}
use Rattle.integers.specs.Front.{front_of}
use Rattle.integers.specs.Range.{NotBelow, Passes, Reads}
use Rattle.integers.specs.Width.{code_of, limit_of, width_at}
use Rattle.integers.specs.declared.width.Width.{Width}
use Rattle.integers.specs.declared.width.Width.TheVariants.{U8}
use Rattle.quoted.specs.Literals.{ByteAt}
use Rattle.written.specs.Written.{bits_of, byte_literal, digits_in, is_signed, magnitude_in, suffix_in, written_len}

-- A sound text and a place in it that fits: what every call at a place asks first.
pub record Placed (text : List ℕ) (place : ℕ) : Type 0 where
  pub fit : judged_of text ≡ Ok tt
  pub place-fits : place_fits text place ≡ true

-- Where a number may be asked for: a sound text, a fit place, no byte literal there, and not the end of the text.
pub record Asked (text : List ℕ) (place : ℕ) : Type 0 where
  pub placed : Placed text place
  pub no_byte : byte_literal (drop place text) ≡ false
  pub some : place < length text

-- The width that digits are judged by: the suffix's, or without one the width asked for.
abbrev pub judged_width : Width → List ℕ → Width
judged_width width s = cond (eqb (suffix_in s).code 0) width (width_at (suffix_in s).code)

-- The largest magnitude that this width holds on the number's side of 0.
abbrev pub limit_here : Width → List ℕ → ℕ
limit_here width s = limit_of (is_signed (judged_width width s)) (bits_of (judged_width width s)) (front_of s).minus

-- 7 at p: no digit stands behind sign and prefix, and p is behind the suffix, if one stands there.
pub record NoDigits (text : List ℕ) (place p : ℕ) : Type 0 where
  pub asked : Asked text place
  pub none : length (digits_in (drop place text)) ≡ 0
  pub place_is : p ≡ place + written_len (drop place text)

-- 8 at p: the first of the digits is an underscore, and p is its place.
pub record UnderscoreFirst (text : List ℕ) (place p : ℕ) : Type 0 where
  pub asked : Asked text place
  pub underscore : get_or (digits_in (drop place text)) 0 0 ≡ 0x5f
  pub place_is : p ≡ place + (front_of (drop place text)).end

-- 9 at p: the digits before one read, the product was within the limit, this one is not below the base, and p is its place.
pub record DigitTooHigh (width : Width) (text : List ℕ) (place p : ℕ) : Type 0 where
  pub asked : Asked text place
  pub nth : ℕ
  pub not_below : NotBelow (limit_here width (drop place text)) (front_of (drop place text)).base (digits_in (drop place text)) nth
  pub place_is : p ≡ place + ((front_of (drop place text)).end + nth)

-- 10 at p: the digits before one read, with this one the limit is passed, and p is behind digits and suffix.
pub record OutOfBounds (width : Width) (text : List ℕ) (place p : ℕ) : Type 0 where
  pub asked : Asked text place
  pub nth : ℕ
  pub passes : Passes (limit_here width (drop place text)) (front_of (drop place text)).base (digits_in (drop place text)) nth
  pub behind : p ≡ place + written_len (drop place text)

-- 27 for a number: it is written with the suffix of another width, and reads in that width.
pub record OtherWidth (width : Width) (text : List ℕ) (place : ℕ) : Type 0 where
  pub asked : Asked text place
  pub other : Width
  pub differs : other ≡ width → ⊥
  pub suffix : (suffix_in (drop place text)).code ≡ code_of other
  pub digits : Reads (is_signed other) (bits_of other) (front_of (drop place text)).minus (front_of (drop place text)).base (digits_in (drop place text)) (magnitude_in (drop place text))

-- 27 for a byte literal: one stands there, and another width than u8 is asked for.
pub record OtherByte (width : Width) (text : List ℕ) (place : ℕ) : Type 0 where
  pub placed : Placed text place
  pub differs : width ≡ U8 → ⊥
  pub byte : ℕ
  pub rest : List ℕ
  pub literal : ByteAt (drop place text) byte rest

-- An escape of a byte literal, from behind its backslash, that is cut off where one more character is needed.
pub data CutEscape : List ℕ → Type 0 where
  no_letter : CutEscape []
  no_digits : CutEscape (0x78 ∷ [])
  one_digit : {h : ℕ} → hex_of h < 16 → CutEscape (0x78 ∷ h ∷ [])
  not_closed : {v : ℕ} {ds : List ℕ} → Hex 0 ds v → length ds < 6 → CutEscape (0x75 ∷ 0x7B ∷ ds)

-- A byte literal that is cut off so: behind `b'`, or in its escape.
pub data CutByte : List ℕ → Type 0 where
  no_byte : CutByte (0x62 ∷ 0x27 ∷ [])
  in_escape : {s : List ℕ} → CutEscape s → CutByte (0x62 ∷ 0x27 ∷ 0x5C ∷ s)

-- 6 at p: the place is the end of the text, or a byte literal there is cut off; p is the end of the text.
pub record TextEnds (text : List ℕ) (place p : ℕ) : Type 0 where
  pub placed : Placed text place
  pub ends : (place ≡ length text) ⊎ CutByte (drop place text)
  pub place_is : p ≡ length text

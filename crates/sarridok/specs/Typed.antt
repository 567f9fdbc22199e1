-- The call `integer` (document 01): "Typed integer at a place, in one of eight widths." Order of refusals: 1, 2, 28, then those of reading, then 27 for a
-- suffix once the digits have read. "A typed read answers the value and the place behind it; with another suffix it is 27 (its place 0 is an exception to
-- equality), and a byte literal is u8."
use Rattle.std.specs.Prelude.{Ok, Err, ℕ, ◌+◌, ◌^◌, ◌<◌, List, [], ◌∷◌, false, cond, not, drop, eqb, ℤ}
use Rattle.text.specs.Refusals.{Told, placed_behind, other_kind}
use Rattle.text.specs.Judged.{place_fits, behind_front}
use Rattle.text.specs.Words.{starts_with}
use Rattle.integers.specs.Width.{code_of}
use Rattle.integers.specs.Range.{signed_of}
use Rattle.integers.specs.Integer.{typed_of}
use Rattle.integers.specs.declared.width.Width.{Width}
use Rattle.integers.specs.declared.integer.Value.{Value}
use Rattle.integers.specs.declared.integer.Integer.{Integer}
use Rattle.integers.specs.declared.integer.Integer.TheVariants as integer
use Rattle.strings.specs.Chars.{byte_of}
use Rattle.sarridok.specs.declared.integer_call.Typed.{Typed}

-- The number itself.
abbrev pub signed_number : Value → ℤ
signed_number v = signed_of v.minus v.magnitude

-- A byte literal is u8, and for any other width of another kind.
abbrev pub byte_as : Width → Told (ℕ × ℕ) → Integer
byte_as width (Ok (len, b)) = cond (not (eqb (code_of width) 5)) integer.OtherSuffix (integer.Read (record { minus = false; magnitude = b }) len)
byte_as width (Err r) = integer.Refused r

-- The integer at the front of a part: a byte literal where `b'` stands there.
unfoldable pub integer_at : Width → List ℕ → Integer
integer_at width s = cond (starts_with (0x62 ∷ 0x27 ∷ []) s) (byte_as width (byte_of s)) (typed_of width s)

-- The same, seen from the front of the text; 27 stands at 0.
abbrev pub placed_at : ℕ → Integer → Told Typed
placed_at place (integer.Read v end) = Ok (record { number = v; end = place + end })
placed_at place integer.OtherSuffix = Err other_kind
placed_at place (integer.Refused r) = Err (placed_behind place r)

-- Its places are numbers of 64 bits there.
abbrev pub Fitting : ℕ → Integer → Type 0
Fitting place (integer.Read v end) = place + end < 2 ^ 64
Fitting place integer.OtherSuffix = Unit
Fitting place (integer.Refused r) = place + r.place < 2 ^ 64

-- The whole answer.
unfoldable pub integer_of : List ℕ → ℕ → Width → Told Typed
integer_of text place width = behind_front text (place_fits text place) (placed_at place (integer_at width (drop place text)))

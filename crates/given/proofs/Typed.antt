-- The refusals of a typed read at a place are 4 to 27. Assumes nothing.
use Rattle.std.proofs.Common.{Ok, Err}
use Rattle.text.specs.Refusals.{Told}
use Prim.Native.Nat.{ℕ}
use mathlib.Core.Bool.{not}
use mathlib.Core.List.{List, [], ◌∷◌}
use mathlib.Core.Path.{refl}
use lib.Dec.{eqb, lit≤}
use Rattle.text.specs.Words.{starts_with}
use Rattle.integers.specs.Width.{code_of}
use Rattle.integers.specs.declared.integer.Integer.{Integer}
use Rattle.integers.specs.declared.integer.Integer.TheVariants as integer
use Rattle.integers.specs.declared.width.Width.{Width}
use Rattle.strings.specs.Chars.{byte_of}
use Rattle.sarridok.specs.Typed.{byte_as, integer_at, placed_at}
use Rattle.given.specs.Given.{within}
use Rattle.given.proofs.Both.{both}
use Rattle.given.proofs.Chars.{Inner-byte, byte_inner}
use Rattle.given.proofs.Front.{FourTo-told, higher}
use Rattle.given.proofs.Integers.{Inner-integer, typed_inner}

byte-as : (width : Width) (a : Told (ℕ × ℕ)) → Inner-byte a → Inner-integer (byte_as width a)
byte-as width (Ok (n, b)) h = both Inner-integer (not (eqb (code_of width) 5)) tt tt
byte-as width (Err r) h = h

at_inner : (width : Width) (s : List ℕ) → Inner-integer (integer_at width s)
unfolding integer_at
at_inner width s = both Inner-integer (starts_with (0x62 ∷ 0x27 ∷ []) s) (byte-as width (byte_of s) (byte_inner s)) (typed_inner width s)

placed_own : (place : ℕ) (a : Integer) → Inner-integer a → FourTo-told 27 (placed_at place a)
unfolding within
placed_own place (integer.Read v end) h = tt
placed_own place integer.OtherSuffix h = refl
placed_own place (integer.Refused r) h = higher 21 27 r (lit≤ tt) h

pub integer_own : (place : ℕ) (width : Width) (s : List ℕ) → FourTo-told 27 (placed_at place (integer_at width s))
integer_own place width s = placed_own place (integer_at width s) (at_inner width s)

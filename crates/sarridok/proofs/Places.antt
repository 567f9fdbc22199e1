-- The places of a typed read lie within the text. Assumes nothing.
use Rattle.std.proofs.Common.{Ok, Err}
use Rattle.text.specs.Refusals.{Told}
use Prim.Native.Nat.{ℕ, ◌+◌, ◌^◌, ◌<◌, ◌≤◌}
use native.Mathlib.Omega.{arith}
use mathlib.Core.Bool.{not}
use mathlib.Core.List.{List, [], ◌∷◌}
use lib.Dec.{eqb}
use lib.ListN.{length, drop, length-drop}
use Rattle.text.proofs.Choices.{bool_cases, either}
use Rattle.text.specs.Words.{starts_with}
use Rattle.integers.specs.Width.{code_of}
use Rattle.integers.specs.declared.width.Width.{Width}
use Rattle.integers.specs.declared.integer.Integer.{Integer}
use Rattle.integers.specs.declared.integer.Integer.TheVariants as integer
use Rattle.integers.proofs.Bounded.{TypedBounded, typed_bounded}
use Rattle.strings.specs.Chars.{byte_of}
use Rattle.strings.proofs.Bounds.{Bounded-byte, byte_bounded}
use Rattle.sarridok.specs.Typed.{byte_as, integer_at, Fitting}

byte-as : (width : Width) (b : Told (ℕ × ℕ)) (s : List ℕ) → Bounded-byte s b → TypedBounded (length s) (byte_as width b)
byte-as width (Ok (len, b)) s h = either (bool_cases (not (eqb (code_of width) 5))) (λ a. rw a tt) (λ a. rw a (omega arith, h.1))
byte-as width (Err r) s h = h

pub at_bounded : (width : Width) (s : List ℕ) → TypedBounded (length s) (integer_at width s)
unfolding integer_at
at_bounded width s =
    either (bool_cases (starts_with (0x62 ∷ 0x27 ∷ []) s)) (λ a. rw a (byte-as width (byte_of s) s (byte_bounded s))) (λ a. rw a (typed_bounded width s))

fitting : (place n : ℕ) (r : Integer) → place + n < 2 ^ 64 → TypedBounded n r → Fitting place r
fitting place n (integer.Read v end) h b = omega (arith, b.1)
fitting place n integer.OtherSuffix h b = tt
fitting place n (integer.Refused r) h b = omega arith

pub at_fits : (text : List ℕ) (place : ℕ) (width : Width) → place ≤ length text → length text < 2 ^ 64 → Fitting place (integer_at width (drop place text))
at_fits text place width h l =
    fitting place (length (drop place text)) (integer_at width (drop place text)) (omega (arith, length-drop place text)) (at_bounded width (drop place text))

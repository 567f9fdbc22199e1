-- When the call `integer` accepts (document 01), said plainly: "A typed read answers the value and the place behind it; with another suffix it is 27, and
-- a byte literal is u8."
use Rattle.std.specs.Prelude.{ℕ, ◌+◌, ◌<◌, ◌≤◌, false, List, ◌≡◌, length, drop}
use Rattle.integers.specs.Front.{front_of}
use Rattle.integers.specs.Integer.{number_read}
use Rattle.integers.specs.declared.width.Width.{Width}
use Rattle.integers.specs.declared.width.Width.TheVariants.{U8}
use Rattle.quoted.specs.Literals.{ByteAt}
use Rattle.sarridok.specs.declared.integer_call.Typed.{Typed}
use Rattle.written.specs.Refused.{Placed}
use Rattle.written.specs.Written.{IsWritten, magnitude_in, written_len}

-- A number at a place is accepted as t: one of the width is written there, t's number has its sign and magnitude, and it ends where t says.
pub record NumberAccepted (width : Width) (text : List ℕ) (place : ℕ) (t : Typed) : Type 0 where
  pub placed : Placed text place
  pub written_is : IsWritten width (drop place text)
  pub number_is : t.number ≡ number_read (front_of (drop place text)).minus (magnitude_in (drop place text))
  pub end_is : t.end ≡ place + written_len (drop place text)

-- A byte literal at a place is accepted as t: u8 is asked for, its byte is t's number, and it ends where t says.
pub record ByteAccepted (width : Width) (text : List ℕ) (place : ℕ) (t : Typed) : Type 0 where
  pub placed : Placed text place
  pub width_is : width ≡ U8
  pub byte : ℕ
  pub number_is : t.number ≡ record { minus = false; magnitude = byte }
  pub behind : place < t.end
  pub inside : t.end ≤ length text
  pub literal : ByteAt (drop place text) byte (drop t.end text)

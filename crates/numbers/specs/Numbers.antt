-- Numbers (document 01, module 6): "A failed integer is tried as a float and taken if that reaches at least as far."
-- A token that begins with a digit, a sign or a point is a number.
use Rattle.std.specs.Prelude.{Ok, Err}
use Rattle.text.specs.Refusals.{Told}
use Rattle.floats.specs.declared.float.FloatSpan.{FloatSpan}
use Rattle.integers.specs.declared.width.Width.{Width}
use Rattle.std.specs.Prelude.{ℕ, List, Bool, cond, drop, ltb, leb}
use Rattle.text.specs.Classes.{int_char}
use Rattle.text.specs.Runs.{run}
use Rattle.text.specs.declared.refusal.Refusal.{Refusal}
use Rattle.integers.specs.Front.{sign_of}
use Rattle.integers.specs.Integer.{any_of}
use Rattle.floats.specs.Classes.{float_run}
use Rattle.floats.specs.Float.{float_of}
use Rattle.numbers.specs.declared.Number.{Number}
use Rattle.numbers.specs.declared.Number.TheVariants.{Int, Float, Refused}

-- The float run is longer than the integer run.
abbrev pub float_longer : List ℕ → Bool
float_longer t = ltb (run int_char t) (float_run t)

-- The crate's `next_bytes_is_float`: it is so behind one sign.
unfoldable pub float_ahead : List ℕ → Bool
float_ahead s = float_longer (drop (sign_of s).end s)

-- A float as a number.
abbrev pub of_float : Told FloatSpan → Number
of_float (Ok f) = Float f
of_float (Err r) = Refused r

-- A float is taken for an integer refused so where it reaches at least as far; else the integer's refusal stands.
abbrev pub or_float : Refusal → Told FloatSpan → Number
or_float r (Ok f) = cond (leb r.place f.len) (Float f) (Refused r)
or_float r (Err q) = Refused r

-- An integer, or where it is refused what the float makes of it.
abbrev pub or_else : Told (Width × ℕ) → Told FloatSpan → Number
or_else (Ok (w, l)) f = Int w l
or_else (Err r) f = or_float r f

-- A number.
unfoldable pub number_of : List ℕ → Number
number_of s = cond (float_ahead s) (of_float (float_of s)) (or_else (any_of s) (float_of s))

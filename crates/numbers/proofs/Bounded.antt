-- A number is not empty and ends within its part, and a refusal's place lies within the part. Assumes nothing.
use Rattle.std.proofs.Common.{Ok, Err}
use Rattle.text.specs.Refusals.{Told}
use Rattle.floats.specs.declared.float.FloatSpan.{FloatSpan}
use Rattle.integers.specs.declared.width.Width.{Width}
use Prim.Native.Nat.{◌<◌, ◌≤◌, ℕ}
use mathlib.Core.List.{List}
use lib.Dec.{leb}
use lib.ListN.{length}
use Rattle.floats.proofs.Bounded.{FloatBounded, float_bounded}
use Rattle.floats.specs.Float.{float_of}
use Rattle.integers.proofs.Bounded.{AnyBounded, integer_bounded}
use Rattle.integers.specs.Integer.{any_of}
use Rattle.numbers.specs.Numbers.{float_ahead, number_of, of_float, or_else, or_float}
use Rattle.numbers.specs.declared.Number.{Number}
use Rattle.numbers.specs.declared.Number.TheVariants.{Int, Float, Refused}
use Rattle.text.proofs.Choices.{bool_cases, either}
use Rattle.text.specs.declared.refusal.Refusal.{Refusal}

abbrev pub NumberBounded : ℕ → Number → Type 0
NumberBounded n (Int w l) = (0 < l) × (l ≤ n)
NumberBounded n (Float f) = (0 < f.len) × (f.len ≤ n) × (f.suffix ≤ 64)
NumberBounded n (Refused r) = r.place ≤ n

of-float : (f : Told FloatSpan) (n : ℕ) → FloatBounded n f → NumberBounded n (of_float f)
of-float (Ok f) n h = h
of-float (Err r) n h = h

or-float : (r : Refusal) (f : Told FloatSpan) (n : ℕ) → r.place ≤ n → FloatBounded n f → NumberBounded n (or_float r f)
or-float r (Ok f) n h k = either (bool_cases (leb r.place f.len)) (λ b. rw b k) (λ b. rw b h)
or-float r (Err q) n h k = h

or-else : (i : Told (Width × ℕ)) (f : Told FloatSpan) (n : ℕ) → AnyBounded n i → FloatBounded n f → NumberBounded n (or_else i f)
or-else (Ok (w, l)) f n h k = h
or-else (Err r) f n h k = or-float r f n h k

pub number_bounded : (s : List ℕ) → NumberBounded (length s) (number_of s)
unfolding number_of
number_bounded s =
    either (bool_cases (float_ahead s)) (λ a. rw a (of-float (float_of s) (length s) (float_bounded s)))
    (λ a. rw a (or-else (any_of s) (float_of s) (length s) (integer_bounded s) (float_bounded s)))

-- An integer is not empty and ends within its part, and a refusal's place lies within the part. Assumes nothing.
use Rattle.std.proofs.Common.{Ok, Err}
use Rattle.text.specs.Refusals.{Told}
use Prim.Native.Nat.{◌+◌, ◌<◌, ◌≤◌, ℕ}
use native.Mathlib.Omega.{arith}
use mathlib.Core.Bool.{Bool}
use mathlib.Core.List.{List}
use lib.Dec.{eqb}
use lib.ListN.{drop, length, length-drop}
use Rattle.integers.proofs.Fronts.{front_le}
use Rattle.integers.proofs.Readings.{Within, numeral_within}
use Rattle.integers.specs.Front.{front_of}
use Rattle.integers.specs.Integer.{any_as, any_of, numeral_of, other_suffix, typed_as, typed_of}
use Rattle.integers.specs.Width.{code_of, widest}
use Rattle.integers.specs.declared.integer.Integer.{Integer}
use Rattle.integers.specs.declared.width.Width.{Width}
use Rattle.text.proofs.Choices.{bool_cases, either}
use Rattle.integers.specs.declared.integer.Integer.TheVariants as integer

abbrev pub TypedBounded : ℕ → Integer → Type 0
TypedBounded n (integer.Read v end) = (0 < end) × (end ≤ n)
TypedBounded n integer.OtherSuffix = Unit
TypedBounded n (integer.Refused r) = r.place ≤ n

abbrev pub AnyBounded : ℕ → Told (Width × ℕ) → Type 0
AnyBounded n (Ok (w, end)) = (0 < end) × (end ≤ n)
AnyBounded n (Err r) = r.place ≤ n

typed-as : (asked : ℕ) (minus : Bool) (at n m : ℕ) (r : Told (ℕ × ℕ × ℕ)) → at + n ≤ m → Within n r → TypedBounded m (typed_as asked minus at r)
typed-as asked minus at n m (Ok (v, found, end)) h w =
    either (bool_cases (other_suffix found asked)) (λ a. rw a tt) (λ a. rw a (omega (arith, w.0), omega (arith, w.1)))
typed-as asked minus at n m (Err r) h w = omega arith

any-as : (minus : Bool) (at n m : ℕ) (r : Told (ℕ × ℕ × ℕ)) → at + n ≤ m → Within n r → AnyBounded m (any_as minus at r)
any-as minus at n m (Ok (v, found, end)) h w = (omega (arith, w.0), omega (arith, w.1))
any-as minus at n m (Err r) h w = omega arith

behind-front : (s : List ℕ) → (front_of s).end + length (drop (front_of s).end s) ≤ length s
behind-front s = omega (arith, front_le s, length-drop (front_of s).end s)

pub typed_bounded : (width : Width) (s : List ℕ) → TypedBounded (length s) (typed_of width s)
unfolding typed_of
typed_bounded width s =
    let g = front_of s in
    either (bool_cases (eqb (length s) 0)) (λ a. rw a (omega arith))
    (λ a. rw a (typed-as (code_of width) g.minus g.end (length (drop g.end s)) (length s) (numeral_of (code_of width) g.minus g.base (drop g.end s)) (behind-front s)
    (numeral_within (code_of width) g.minus g.base (drop g.end s))))

pub integer_bounded : (s : List ℕ) → AnyBounded (length s) (any_of s)
unfolding any_of
integer_bounded s =
    let g = front_of s in
    either (bool_cases (eqb (length s) 0)) (λ a. rw a (omega arith))
    (λ a. rw a (any-as g.minus g.end (length (drop g.end s)) (length s) (numeral_of (widest g.minus) g.minus g.base (drop g.end s)) (behind-front s)
    (numeral_within (widest g.minus) g.minus g.base (drop g.end s))))

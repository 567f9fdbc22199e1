-- The refusals of integers are inner. Assumes nothing.
use Rattle.std.proofs.Common.{Ok, Err}
use Rattle.text.specs.Refusals.{Told}
use Prim.Native.Nat.{ℕ, ◌+◌}
use mathlib.Core.Bool.{Bool}
use mathlib.Core.List.{List}
use mathlib.Core.Path.{refl}
use lib.Dec.{eqb}
use lib.ListN.{drop, length, take}
use Rattle.text.specs.Classes.{int_char}
use Rattle.text.specs.Runs.{run}
use Rattle.digits.specs.Digits.{run_of}
use Rattle.digits.specs.declared.Run.{Run}
use Rattle.digits.specs.declared.Run.TheVariants.{Value, Empty, Underscore, NotDigit, Over}
use Rattle.integers.specs.Front.{front_of}
use Rattle.integers.specs.Integer.{chosen_of, behind_run, numeral_of, other_suffix, typed_as, typed_of, any_as, any_of}
use Rattle.integers.specs.Width.{code_of, limit_at, suffix_of, widest}
use Rattle.integers.specs.declared.ident.Found.{Found}
use Rattle.integers.specs.declared.width.Width.{Width}
use Rattle.integers.specs.declared.integer.Integer.{Integer}
use Rattle.integers.specs.declared.integer.Integer.TheVariants as integer
use Rattle.inner.specs.Inner.{Inner, within}
use Rattle.inner.proofs.Both.{both}

abbrev pub Inner-numeral : Told (ℕ × ℕ × ℕ) → Type 0
Inner-numeral (Ok (v, found, end)) = Unit
Inner-numeral (Err r) = Inner r

abbrev pub Inner-integer : Integer → Type 0
Inner-integer (integer.Read v end) = Unit
Inner-integer integer.OtherSuffix = Unit
Inner-integer (integer.Refused r) = Inner r

abbrev pub Inner-any : Told (Width × ℕ) → Type 0
Inner-any (Ok (w, end)) = Unit
Inner-any (Err r) = Inner r

behind-run : (found end : ℕ) (r : Run) → Inner-numeral (behind_run found end r)
unfolding within
behind-run found end (Value v) = tt
behind-run found end Empty = refl
behind-run found end Underscore = refl
behind-run found end (NotDigit at) = refl
behind-run found end Over = refl

pub numeral_inner : (asked : ℕ) (minus : Bool) (base : ℕ) (t : List ℕ) → Inner-numeral (numeral_of asked minus base t)
unfolding numeral_of
numeral_inner asked minus base t =
    let n = run int_char t in
    let f : Found = suffix_of (drop n t) in
    behind-run f.code (length (take n t) + f.end) (run_of (limit_at (chosen_of f.code asked) minus) base (take n t))

typed-as : (asked : ℕ) (minus : Bool) (at : ℕ) (n : Told (ℕ × ℕ × ℕ)) → Inner-numeral n → Inner-integer (typed_as asked minus at n)
typed-as asked minus at (Ok (v, found, end)) h = both Inner-integer (other_suffix found asked) tt tt
typed-as asked minus at (Err r) h = h

any-as : (minus : Bool) (at : ℕ) (n : Told (ℕ × ℕ × ℕ)) → Inner-numeral n → Inner-any (any_as minus at n)
any-as minus at (Ok (v, found, end)) h = tt
any-as minus at (Err r) h = h

pub typed_inner : (width : Width) (s : List ℕ) → Inner-integer (typed_of width s)
unfolding typed_of within
typed_inner width s =
    let g = front_of s in
    let t = drop g.end s in
    both Inner-integer (eqb (length s) 0) refl
    (typed-as (code_of width) g.minus g.end (numeral_of (code_of width) g.minus g.base t) (numeral_inner (code_of width) g.minus g.base t))

pub any_inner : (s : List ℕ) → Inner-any (any_of s)
unfolding any_of within
any_inner s =
    let g = front_of s in
    let t = drop g.end s in
    both Inner-any (eqb (length s) 0) refl
    (any-as g.minus g.end (numeral_of (widest g.minus) g.minus g.base t) (numeral_inner (widest g.minus) g.minus g.base t))

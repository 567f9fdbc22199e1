-- The refusals of floats and numbers are inner. Assumes nothing.
use Rattle.std.proofs.Common.{Ok, Err}
use Rattle.text.specs.Refusals.{Told}
use Rattle.floats.specs.declared.float.FloatSpan.{FloatSpan}
use Rattle.integers.specs.declared.width.Width.{Width}
use Prim.Native.Nat.{ℕ, ◌+◌}
use mathlib.Core.List.{List}
use mathlib.Core.Path.{refl}
use lib.Dec.{eqb, leb}
use lib.ListN.{drop, length, take}
use Rattle.text.specs.declared.refusal.Refusal.{Refusal}
use Rattle.integers.specs.Front.{sign_of}
use Rattle.integers.specs.Words.{first_of}
use Rattle.integers.specs.Integer.{any_of}
use Rattle.integers.specs.declared.ident.Found.{Found}
use Rattle.floats.specs.Classes.{float_run}
use Rattle.floats.specs.Judged.{float_judged}
use Rattle.floats.specs.Float.{float_suffixes, specials, behind_float, with_float_suffix, run_at, float_of}
use Rattle.floats.specs.declared.judge.Judged.{Judged}
use Rattle.floats.specs.declared.judge.Judged.TheVariants.{Misplaced, Fine, Unfit}
use Rattle.numbers.specs.Numbers.{float_ahead, of_float, or_float, or_else, number_of}
use Rattle.numbers.specs.declared.Number.{Number}
use Rattle.numbers.specs.declared.Number.TheVariants.{Int, Float, Refused}
use Rattle.inner.specs.Inner.{Inner, within}
use Rattle.inner.proofs.Both.{both}
use Rattle.inner.proofs.Integers.{Inner-any, any_inner}

-- ---- floats

abbrev pub Inner-float : Told FloatSpan → Type 0
Inner-float (Ok f) = Unit
Inner-float (Err r) = Inner r

behind-judged : (code end : ℕ) (j : Judged) → Inner-float (behind_float code end j)
unfolding within
behind-judged code end (Misplaced at) = refl
behind-judged code end Fine = tt
behind-judged code end Unfit = refl

with_suffix : (part : List ℕ) (f : Found) → Inner-float (with_float_suffix part f)
unfolding within
with_suffix part f = both Inner-float (eqb (length part) 0) refl (behind-judged f.code (length part + f.end) (float_judged part))

run-at : (s : List ℕ) → Inner-float (run_at s)
unfolding run_at
run-at s = with_suffix (take (float_run s) s) (first_of float_suffixes (drop (float_run s) s))

pub float_inner : (s : List ℕ) → Inner-float (float_of s)
unfolding float_of
float_inner s =
    let n = (sign_of s).end in
    let f : Found = first_of specials (drop n s) in
    both Inner-float (eqb n 0) (run-at s) (both Inner-float (eqb f.end 0) (run-at s) tt)

-- ---- numbers

abbrev pub Inner-number : Number → Type 0
Inner-number (Int w n) = Unit
Inner-number (Float f) = Unit
Inner-number (Refused r) = Inner r

of-float : (a : Told FloatSpan) → Inner-float a → Inner-number (of_float a)
of-float (Ok f) h = tt
of-float (Err r) h = h

or-float : (r : Refusal) (a : Told FloatSpan) → Inner r → Inner-number (or_float r a)
or-float r (Ok f) h = both Inner-number (leb r.place f.len) tt h
or-float r (Err q) h = h

or-else : (a : Told (Width × ℕ)) (f : Told FloatSpan) → Inner-any a → Inner-number (or_else a f)
or-else (Ok (w, n)) f h = tt
or-else (Err r) f h = or-float r f h

pub number_inner : (s : List ℕ) → Inner-number (number_of s)
unfolding number_of
number_inner s = both Inner-number (float_ahead s) (of-float (float_of s) (float_inner s)) (or-else (any_of s) (float_of s) (any_inner s))

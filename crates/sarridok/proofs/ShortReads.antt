-- A short integer is what a typed read answers at the front of a part, byte literals included. Assumes nothing.
use Prim.Native.Nat.{ℕ}
use mathlib.Core.Bool.{false}
use mathlib.Core.List.{List}
use mathlib.Core.Path.{◌≡◌}
use Rattle.integers.specs.Width.{code_of, limit_at}
use Rattle.integers.specs.declared.integer.Integer.TheVariants as integer
use Rattle.integers.specs.declared.width.Width.{Width}
use Rattle.plain_numbers.proofs.ShortIntegers.{Held, held_begins, held_read, short_held}
use Rattle.plain_numbers.specs.declared.short.Short.TheVariants.{Value}
use Rattle.plain_numbers.specs.inner.Shorts.{short_of}
use Rattle.sarridok.specs.Typed.{integer_at}

pub short_read : (w : Width) (code : ℕ) → limit_at (code_of w) false ≡ limit_at code false → (s : List ℕ) (v n : ℕ) → short_of code s ≡ Value v n
    → integer_at w s ≡ integer.Read (record { minus = false; magnitude = v }) n
unfolding integer_at
short_read w code same s v n e =
    let h = short_held code s v n e in
    let held : Held (code_of w) s v = record { some = h.0.some; ends = h.0.ends; value = h.0.value; fits = rw same h.0.fits } in
    rw (held_begins s v w held, held_read s v w held, h.1)

-- Widths and modes by their numbers: the cases of the definitions. Assumes nothing.
use Rattle.std.proofs.Common.{Err}
use Prim.Native.Nat.{ℕ, ◌≤◌, ◌<◌}
use native.Mathlib.Omega.{arith}
use mathlib.Core.List.{List}
use mathlib.Core.Path.{◌≡◌}
use borrow.Author.Tests.{le-leb, lt-leb}
use Rattle.integers.specs.Width.{width_at}
use Rattle.sarridok.specs.Typed.{integer_of}
use Rattle.sarridok.specs.StructKind.{struct_kind_of}
use Rattle.sarridok_c.specs.Packed.{unfit_in}
use Rattle.sarridok_c.specs.Numbered.{newtype_at, tuple_at, integer_numbered, kind_numbered}

module _ (text : List ℕ) (place : ℕ) where
  pub width_low : (width : ℕ) → width < 1 → integer_numbered text place width ≡ Err (unfit_in text)
  unfolding integer_numbered
  width_low width h = rw (lt-leb 1 width h)

  pub width_high : (width : ℕ) → 8 < width → integer_numbered text place width ≡ Err (unfit_in text)
  unfolding integer_numbered
  width_high width h = rw (le-leb 1 width (omega arith), lt-leb width 8 h)

  pub width_fit : (width : ℕ) → 1 ≤ width → width ≤ 8 → integer_numbered text place width ≡ integer_of text place (width_at width)
  unfolding integer_numbered
  width_fit width l h = rw (le-leb 1 width l, le-leb width 8 h)

  pub newtype_high : (newtype tuple : ℕ) → 1 < newtype → kind_numbered text place newtype tuple ≡ Err (unfit_in text)
  unfolding kind_numbered
  newtype_high newtype tuple h = rw (lt-leb newtype 1 h)

  pub tuple_high : (newtype tuple : ℕ) → newtype ≤ 1 → 1 < tuple → kind_numbered text place newtype tuple ≡ Err (unfit_in text)
  unfolding kind_numbered
  tuple_high newtype tuple l h = rw (le-leb newtype 1 l, lt-leb tuple 1 h)

  pub modes_fit : (newtype tuple : ℕ) → newtype ≤ 1 → tuple ≤ 1
      → kind_numbered text place newtype tuple ≡ struct_kind_of text place (newtype_at newtype) (tuple_at tuple)
  unfolding kind_numbered
  modes_fit newtype tuple l h = rw (le-leb newtype 1 l, le-leb tuple 1 h)

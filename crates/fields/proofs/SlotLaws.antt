-- The slot of a name: fields in slots of their own have names of their own. Assumes nothing.
use Prim.Native.Nat.{ℕ, ◌<◌}
use native.Mathlib.Omega.{arith}
use mathlib.Core.Path.{◌≡◌}
use mathlib.Core.List.{List}
use mathlib.Core.Bool.{Bool, true, false}
use lib.ListN.{get_or}
use Rattle.fields.proofs.FirstLaws.{Apart}
use Rattle.fields.specs.inner.Order.{slot_of}

module _ (nm : ℕ → List ℕ) (es : List ℕ) where
  -- the slots of the first p fields are taken
  abbrev pub Taken : List Bool → ℕ → Type 0
  Taken taken p = (k : ℕ) → k < p → get_or taken (slot_of (nm (get_or es k 0))) false ≡ true

  pub apart_none : Apart nm es 0
  apart_none i k h g e = off g
    where
      off : k < 0 → ⊥
      off l = omega arith

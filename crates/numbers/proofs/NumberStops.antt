-- Nothing behind a byte outside of the raw name's class, such as a quiet byte or a slash, changes what a number reads as, refusals included:
-- the law that repair rests on. Assumes nothing.
use Rattle.text.specs.Refusals.{Told}
use Rattle.floats.specs.declared.float.FloatSpan.{FloatSpan}
use Rattle.integers.specs.declared.width.Width.{Width}
use Prim.Native.Nat.{ℕ}
use mathlib.Core.Bool.{Bool, cond}
use mathlib.Core.List.{List, ◌∷◌, ◌++◌}
use mathlib.Core.Path.{◌∙◌, ◌≡◌}
use lib.Dec.{ltb}
use Rattle.floats.proofs.FloatStops.{float_reach, float_stopped}
use Rattle.integers.proofs.IntegerStops.{Outside, int_reach, sign_reach, integer_stopped}
use Rattle.numbers.specs.Numbers.{float_ahead, float_longer, number_of, of_float, or_else}
use Rattle.numbers.specs.declared.Number.{Number}
use Rattle.text.proofs.Stops.{Stopped, on₂, on₃, behind}

module _ (c : ℕ) (o : Outside c) where
  longer_stopped : Stopped c float_longer
  longer_stopped = on₂ (λ (a b : ℕ). ltb a b) (int_reach c o).stopped (float_reach c o).stopped

  ahead_stopped : Stopped c float_ahead
  unfolding float_ahead
  ahead_stopped = behind (sign_reach c o) longer_stopped

  pub number_stopped : Stopped c number_of
  unfolding number_of
  number_stopped =
      on₃ (λ (b : Bool) (i : Told (Width × ℕ)) (f : Told FloatSpan). cond b (of_float f) (or_else i f)) ahead_stopped (integer_stopped c o) (float_stopped c o)

  -- what was read before such a byte is read whatever stands behind it
  pub number_window : (u v v' : List ℕ) (r : Number) → number_of (u ++ c ∷ v) ≡ r → number_of (u ++ c ∷ v') ≡ r
  number_window u v v' r h = number_stopped.same u v' v ∙ h

-- Laws of chars and byte literals. Assumes nothing.
use Rattle.std.proofs.Common.{Err}
use Prim.Native.Nat.{◌<◌, ℕ}
use native.Mathlib.Omega.{arith}
use mathlib.Core.List.{List, [], ◌∷◌}
use mathlib.Core.Path.{◌≡◌, refl}
use lib.ListN.{length}
use Rattle.strings.specs.Chars.{byte_of}
use Rattle.text.proofs.Choices.{and_false}
use Rattle.text.specs.Refusals.{expected_byte_literal}

-- fewer than two bytes begin no byte literal
pub byte_short : (s : List ℕ) → length s < 2 → byte_of s ≡ Err (expected_byte_literal 0)
unfolding byte_of
byte_short [] h = refl
byte_short (a ∷ []) h = simp and_false
byte_short (a ∷ b ∷ s) h = absurd (omega arith)

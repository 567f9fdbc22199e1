-- The library's `starts_with`, at bytes, is the word's. Assumes nothing.
use Prim.Native.Nat.{ℕ}
use mathlib.Core.Bool.{Bool, ◌&&◌}
use mathlib.Core.List.{List, [], ◌∷◌}
use mathlib.Core.Path.{◌≡◌, ap, refl}
use lib.Dec.{eqb}
use Rattle.std.proofs.Common.{arith}
use Rattle.std.proofs.lemmas.Bool.Decides.{nat_tests}
use Rattle.std.specs.List.{starts_with as begins_with}
use Rattle.text.specs.Words.{starts_with}

either_way : (a b : ℕ) → eqb a b ≡ eqb b a
either_way a b = grind (arith, nat_tests)

pub starts_as : (word s : List ℕ) → begins_with eqb s word ≡ starts_with word s
unfolding starts_with
starts_as [] s = refl
starts_as (w ∷ ws) [] = refl
starts_as (w ∷ ws) (c ∷ cs) = rw (either_way w c) (ap (λ (b : Bool). eqb c w && b) (starts_as ws cs))

-- An entry that is on neither side is exactly one that has no partner. Assumes nothing.
use mathlib.Core.Logic.{◌↔◌}
use mathlib.Core.Path.{◌≡◌, refl}
use native.Mathlib.Omega.{arith}
use Prim.Native.Nat.{ℕ}
use Rattle.grammar.specs.Kinds.{side_of}
use Rattle.grammar.specs.declared.kinds.Side.TheVariants.{Closes, Neither, Opens}
use Rattle.grammar.specs.Nested.{Partner}
use Rattle.grammar.specs.Nested.Partner.{curlies, rounds, squares}
use Rattle.grammar.specs.declared.kinds.Kind.{Kind}
use Rattle.grammar.specs.declared.kinds.Kind.TheVariants.{Attribute, CloseCurly, CloseRound, CloseSquare, Colon, Comma, Name, OpenCurly, OpenRound, OpenSquare, Scalar}

-- no partner in front, and none behind
abbrev Single : Kind → Type 0
Single k = (j : Kind) → (Partner k j → ⊥) × (Partner j k → ⊥)

opening : (j k : Kind) → Partner j k → side_of j ≡ Opens
opening _ _ rounds = refl
opening _ _ squares = refl
opening _ _ curlies = refl

closing : (j k : Kind) → Partner j k → side_of k ≡ Closes
closing _ _ rounds = refl
closing _ _ squares = refl
closing _ _ curlies = refl

-- a kind on neither side has none
no_partner : (k : Kind) → side_of k ≡ Neither → Single k
no_partner k e j = ((λ p. let q = opening k j p in let z : ◌≡◌ {A = ℕ} 0 1 = cc in omega arith), (λ p. let q = closing j k p in let z : ◌≡◌ {A = ℕ} 0 1 = cc in omega arith))

-- and one that has none is on neither side
on_neither : (k : Kind) → Single k → side_of k ≡ Neither
on_neither OpenRound s = absurd ((s CloseRound).0 rounds)
on_neither CloseRound s = absurd ((s OpenRound).1 rounds)
on_neither OpenSquare s = absurd ((s CloseSquare).0 squares)
on_neither CloseSquare s = absurd ((s OpenSquare).1 squares)
on_neither OpenCurly s = absurd ((s CloseCurly).0 curlies)
on_neither CloseCurly s = absurd ((s OpenCurly).1 curlies)
on_neither Comma s = refl
on_neither Colon s = refl
on_neither Name s = refl
on_neither Scalar s = refl
on_neither Attribute s = refl

pub alone_exactly : (k : Kind) → (side_of k ≡ Neither) ↔ ((j : Kind) → (Partner k j → ⊥) × (Partner j k → ⊥))
alone_exactly k = (no_partner k, on_neither k)

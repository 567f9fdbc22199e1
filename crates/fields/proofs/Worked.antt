-- Worked entries: where a field is named again, and where none is. Assumes nothing.
use Rattle.std.proofs.Common.{Ok, Err}
use mathlib.Core.List.{List, [], ◌∷◌}
use mathlib.Core.Path.{◌≡◌, refl}
use Prim.Native.Nat.{ℕ}
use Rattle.text.specs.Refusals.{not_allowed_here, repeated_field}
use Rattle.grammar.specs.declared.kinds.Kind.TheVariants.{OpenRound, CloseRound, Comma, Colon, Name, Scalar}
use Rattle.grammar.specs.Walk.{check}
use Rattle.fields.specs.Fields.{again_from, named_walk, is_named, same}

-- every name the same
abbrev alike : ℕ → List ℕ
alike i = 7 ∷ []

-- (a: 1, a: 2)
pub again : named_walk alike (OpenRound ∷ Name ∷ Colon ∷ Scalar ∷ Comma ∷ Name ∷ Colon ∷ Scalar ∷ CloseRound ∷ []) 3 ≡ Err (repeated_field 5)
unfolding check again_from is_named same
again = refl

-- (a: 1, b: 2)
pub apart : named_walk (λ i. i ∷ []) (OpenRound ∷ Name ∷ Colon ∷ Scalar ∷ Comma ∷ Name ∷ Colon ∷ Scalar ∷ CloseRound ∷ []) 3 ≡ Ok tt
unfolding check again_from is_named same
apart = refl

-- (a: (a: (a, a)), a: 1): each ( ) has its own names, those of values may repeat, and the outer field comes again behind the inner ( )
pub nested : named_walk alike (OpenRound ∷ Name ∷ Colon ∷ OpenRound ∷ Name ∷ Colon ∷ OpenRound ∷ Name ∷ Comma ∷ Name ∷ CloseRound ∷ CloseRound ∷ Comma ∷ Name ∷ Colon ∷ Scalar ∷ CloseRound ∷ []) 3 ≡ Err (repeated_field 13)
unfolding check again_from is_named same
nested = refl

-- (a: 1, a): told at the name, before its colon is asked for
pub before_its_colon : named_walk alike (OpenRound ∷ Name ∷ Colon ∷ Scalar ∷ Comma ∷ Name ∷ CloseRound ∷ []) 3 ≡ Err (repeated_field 5)
unfolding check again_from is_named same
before_its_colon = refl

-- (a: 1, 2: what may not stand there comes first
pub not_a_field : named_walk alike (OpenRound ∷ Name ∷ Colon ∷ Scalar ∷ Comma ∷ Scalar ∷ []) 3 ≡ Err (not_allowed_here 5)
unfolding check again_from is_named same
not_a_field = refl

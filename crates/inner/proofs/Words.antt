-- The refusals of names are inner. Assumes nothing.
use Prim.Native.Nat.{ℕ}
use mathlib.Core.List.{List, [], ◌∷◌}
use mathlib.Core.Path.{refl}
use lib.Dec.{eqb}
use lib.ListN.{drop}
use Rattle.text.specs.Words.{starts_with}
use Rattle.names.specs.Starts.{begins_raw}
use Rattle.names.specs.Identifiers.{skip_identifier_of}
use Rattle.names.specs.Classify.{begins_float, suffixed, named, missing, by_identifier, word_of}
use Rattle.names.specs.declared.Identifier.{Identifier}
use Rattle.names.specs.declared.Identifier.TheVariants.{Missing, Name, RawName}
use Rattle.names.specs.declared.Word.{Word}
use Rattle.names.specs.declared.Word.TheVariants.{Plain, Raw, Float, Refused}
use Rattle.inner.specs.Inner.{Inner, within}
use Rattle.inner.proofs.Both.{both}

abbrev pub Inner-word : Word → Type 0
Inner-word (Plain n) = Unit
Inner-word (Raw n) = Unit
Inner-word (Float n suffix) = Unit
Inner-word (Refused r) = Inner r

suffix : (t : List ℕ) (n : ℕ) → Inner-word (suffixed t n)
unfolding suffixed
suffix t n = both Inner-word (starts_with (0x66 ∷ 0x33 ∷ 0x32 ∷ []) t) tt (both Inner-word (starts_with (0x66 ∷ 0x36 ∷ 0x34 ∷ []) t) tt tt)

name : (s : List ℕ) (n : ℕ) → Inner-word (named s n)
unfolding named
name s n = both Inner-word (begins_float s) (both Inner-word (eqb n 3) tt (both Inner-word (eqb n 6) (suffix (drop 3 s) n) tt)) tt

none_there : (s : List ℕ) → Inner (missing s)
unfolding missing within
none_there s = both Inner (begins_raw s) refl refl

by-identifier : (s : List ℕ) (i : Identifier) → Inner-word (by_identifier s i)
by-identifier s Missing = none_there s
by-identifier s (Name n) = name s n
by-identifier s (RawName n) = tt

pub word_inner : (s : List ℕ) → Inner-word (word_of s)
unfolding word_of
word_inner s = by-identifier s (skip_identifier_of s)

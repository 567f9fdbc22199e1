-- Two answers that meet the promise of `struct_kind` are equal. Assumes nothing.
use Prim.Native.Nat.{ℕ}
use mathlib.Core.List.{List}
use mathlib.Core.Path.{◌∙◌, ◌≡◌, sym}
use Rattle.text.specs.Refusals.{Told}
use Rattle.structs.specs.declared.kinds.NewtypeMode.{NewtypeMode}
use Rattle.structs.specs.declared.kinds.StructType.{StructType}
use Rattle.structs.specs.declared.kinds.TupleMode.{TupleMode}
use Rattle.sarridok.specs.StructKind.{struct_kind_of}

pub struct_kind_determined : (text : List ℕ) (place : ℕ) (newtype : NewtypeMode) (tuple : TupleMode) (a b : Told StructType)
    → a ≡ struct_kind_of text place newtype tuple → b ≡ struct_kind_of text place newtype tuple → a ≡ b
struct_kind_determined text place newtype tuple a b p q = p ∙ sym q

-- The places of a struct kind's refusals lie within the text. Assumes nothing.
use Prim.Native.Nat.{ℕ, ◌^◌, ◌<◌, ◌≤◌}
use native.Mathlib.Omega.{arith}
use mathlib.Core.List.{List}
use lib.ListN.{length, drop, length-drop}
use Rattle.structs.proofs.ScanLaws.{placed_fits}
use Rattle.structs.proofs.TypeLaws.{struct_bounded}
use Rattle.structs.specs.Kinds.{Fitting}
use Rattle.structs.specs.Structs.{struct_type_of}
use Rattle.structs.specs.declared.kinds.NewtypeMode.{NewtypeMode}
use Rattle.structs.specs.declared.kinds.TupleMode.{TupleMode}

pub kind_fits : (text : List ℕ) (place : ℕ) (newtype : NewtypeMode) (tuple : TupleMode) → place ≤ length text → length text < 2 ^ 64
    → Fitting place (struct_type_of (drop place text) newtype tuple)
kind_fits text place newtype tuple h l =
    placed_fits (length (drop place text)) place (struct_type_of (drop place text) newtype tuple) (struct_bounded (drop place text) newtype tuple) (omega (arith, length-drop place text))

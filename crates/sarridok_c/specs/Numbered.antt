-- Widths and modes by their numbers: "width 1 to 8 for i8, i16, i32, i64, u8, u16, u32, u64" (document 01, module 9), modes 0 and 1 in the order of the
-- crate's enums. Any other number is 28, behind 1 and 2 of the text.
use Rattle.std.specs.Prelude.{Err, ℕ, cond, ◌&&◌, List, leb, eqb}
use Rattle.text.specs.Refusals.{Told}
use Rattle.integers.specs.Width.{width_at}
use Rattle.structs.specs.declared.kinds.NewtypeMode.{NewtypeMode}
use Rattle.structs.specs.declared.kinds.NewtypeMode.TheVariants.{NoParensMeanUnit, InsideNewtype}
use Rattle.structs.specs.declared.kinds.TupleMode.{TupleMode}
use Rattle.structs.specs.declared.kinds.TupleMode.TheVariants.{ImpreciseTupleOrNewtype, DifferentiateNewtype}
use Rattle.structs.specs.declared.kinds.StructType.{StructType}
use Rattle.sarridok.specs.declared.integer_call.Typed.{Typed}
use Rattle.sarridok.specs.Typed.{integer_of}
use Rattle.sarridok.specs.StructKind.{struct_kind_of}
use Rattle.sarridok_c.specs.Packed.{unfit_in}

-- The `NewtypeMode` of a number,
abbrev pub newtype_at : ℕ → NewtypeMode
newtype_at n = cond (eqb n 0) NoParensMeanUnit InsideNewtype

-- and the `TupleMode`.
abbrev pub tuple_at : ℕ → TupleMode
tuple_at n = cond (eqb n 0) ImpreciseTupleOrNewtype DifferentiateNewtype

-- A typed integer in the width of a number.
unfoldable pub integer_numbered : List ℕ → ℕ → ℕ → Told Typed
integer_numbered text place width =
    cond (leb 1 width && leb width 8) (integer_of text place (width_at width)) (Err (unfit_in text))

-- A struct kind in the modes of two numbers.
unfoldable pub kind_numbered : List ℕ → ℕ → ℕ → ℕ → Told StructType
kind_numbered text place newtype tuple =
    cond (leb newtype 1 && leb tuple 1) (struct_kind_of text place (newtype_at newtype) (tuple_at tuple)) (Err (unfit_in text))

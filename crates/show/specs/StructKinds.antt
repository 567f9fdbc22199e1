-- The answer of a struct kind: its name in the crate.
use Rattle.std.specs.Prelude.{ℕ, List, ◌++◌}
use Rattle.lines.specs.Ascii.{ascii}
use Rattle.structs.specs.declared.kinds.StructType.{StructType}
use Rattle.structs.specs.declared.kinds.StructType.TheVariants.{AnyTuple, EmptyTuple, NewtypeTuple, NonNewtypeTuple, Named, Unit}

-- The name of a kind.
abbrev pub kind_name : StructType → List ℕ
kind_name AnyTuple = ascii "AnyTuple"
kind_name EmptyTuple = ascii "EmptyTuple"
kind_name NewtypeTuple = ascii "NewtypeTuple"
kind_name NonNewtypeTuple = ascii "NonNewtypeTuple"
kind_name Named = ascii "Named"
kind_name Unit = ascii "Unit"

-- The kind.
unfoldable pub kind_text : StructType → List ℕ
kind_text k = ascii "ok " ++ kind_name k

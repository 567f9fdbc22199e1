-- The call `struct kind` (document 01): "Struct kind at a place, in both `NewtypeMode`s and both `TupleMode`s." Order of refusals: 1, 2, 28, then those of
-- reading. "Success reports no movement; a refusal has the crate's cursor."
use Rattle.std.specs.Prelude.{ℕ, List, drop}
use Rattle.text.specs.Refusals.{Told}
use Rattle.text.specs.Judged.{place_fits, behind_front}
use Rattle.structs.specs.Kinds.{placed_kind}
use Rattle.structs.specs.Structs.{struct_type_of}
use Rattle.structs.specs.declared.kinds.NewtypeMode.{NewtypeMode}
use Rattle.structs.specs.declared.kinds.TupleMode.{TupleMode}
use Rattle.structs.specs.declared.kinds.StructType.{StructType}

-- The whole answer: that for the part which begins at the place, seen from the front of the text.
unfoldable pub struct_kind_of : List ℕ → ℕ → NewtypeMode → TupleMode → Told StructType
struct_kind_of text place newtype tuple =
    behind_front text (place_fits text place) (placed_kind place (struct_type_of (drop place text) newtype tuple))

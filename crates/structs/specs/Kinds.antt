-- Answers of a struct kind (document 01, module 8): "Success reports no movement; a refusal has the crate's cursor."
use Rattle.std.specs.Prelude.{Ok, Err}
use Rattle.text.specs.Refusals.{Told}
use Rattle.structs.specs.declared.kinds.StructType.{StructType}
use Rattle.std.specs.Prelude.{ℕ, ◌+◌, ◌^◌, ◌<◌}
use Rattle.text.specs.Refusals.{placed_behind}

-- The answer for a part that begins at a place, seen from the front.
abbrev pub placed_kind : ℕ → Told StructType → Told StructType
placed_kind place (Ok k) = Ok k
placed_kind place (Err r) = Err (placed_behind place r)

-- Its place is a number of 64 bits there.
abbrev pub Fitting : ℕ → Told StructType → Type 0
Fitting place (Ok k) = Unit {0}
Fitting place (Err r) = place + r.place < 2 ^ 64

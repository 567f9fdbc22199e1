use mathlib.Core.Path.{ap}
use mathlib.Core.Bool.{not}
use Rattle.places.proofs.column.starts_char.Goals as goal

pub returns : goal.returns
returns c = ap not c.is_within.ensures

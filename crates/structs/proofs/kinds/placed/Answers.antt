use Rattle.std.proofs.Common.{Err}
use mathlib.Core.Path.{ap}
use Rattle.structs.proofs.kinds.placed.Goals as goal

pub placed_behind-requires : goal.placed_behind-requires
placed_behind-requires c = rw c.in-Err.is at c.requires

pub returns-in-Ok : goal.returns-in-Ok
returns-in-Ok c = rw c.in-Ok.is

pub returns-in-Err : goal.returns-in-Err
returns-in-Err c = rw c.in-Err.is (ap Err c.placed_behind.ensures)

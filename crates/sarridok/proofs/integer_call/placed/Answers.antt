use Rattle.std.proofs.Common.{Err}
use native.Mathlib.Omega.{arith}
use mathlib.Core.Path.{ap}
use Rattle.sarridok.proofs.integer_call.placed.Goals as goal

pub overflow_add-result : goal.overflow_add-result
overflow_add-result c =
    let h = rw c.in-Read.is at c.requires in
    omega arith

pub placed_behind-requires : goal.placed_behind-requires
placed_behind-requires c = rw c.in-Refused.is at c.requires

pub returns-in-Read : goal.returns-in-Read
returns-in-Read c = rw c.in-Read.is

pub returns-in-OtherSuffix : goal.returns-in-OtherSuffix
returns-in-OtherSuffix c = rw c.in-OtherSuffix.is (ap Err c.other_kind.ensures)

pub returns-in-Refused : goal.returns-in-Refused
returns-in-Refused c = rw c.in-Refused.is (ap Err c.placed_behind.ensures)

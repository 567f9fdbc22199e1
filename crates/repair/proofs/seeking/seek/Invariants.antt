use Prim.Native.Nat.{◌+◌}
use mathlib.Core.Path.{◌≡◌}
use lib.ListN.{drop}
use Rattle.repair.specs.Repair.{leading}
use Rattle.repair.specs.inner.Steps.{seek_from, starts_before}
use Rattle.rows.specs.Rows.{entries_of}
use Rattle.repair.proofs.seeking.seek.Given as goal

abbrev pub invariant-loop-i : goal.invariant-loop-i
invariant-loop-i l = l.i + leading (starts_before l.q) (drop l.i (entries_of l.count l.tape)) ≡ seek_from (entries_of l.count l.tape) l.from l.q

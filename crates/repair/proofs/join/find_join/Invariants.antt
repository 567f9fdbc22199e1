use Prim.Native.Nat.{◌-◌, ◌≤◌}
use mathlib.Core.Path.{◌≡◌}
use lib.ListN.{length}
use Rattle.reading.specs.Readings.{read_from}
use Rattle.repair.proofs.Searching.{Standing}
use Rattle.repair.specs.Repair.{scan_of}
use Rattle.rows.specs.Rows.{entries_of}
use Rattle.tokens.specs.Ron.{ron_token}
use Rattle.repair.proofs.join.find_join.Given as goal

abbrev pub invariant-loop-at : goal.invariant-loop-at
invariant-loop-at l = (l.at ≤ length l.text) × (l.n ≤ l.at) × Standing (entries_of l.count l.tape) l.b l.e l.at l.i × (scan_of (entries_of l.count l.tape) l.b l.e l.n (read_from ron_token l.text l.at) ≡ scan_of (entries_of l.count l.tape) l.b l.e 0 (read_from ron_token l.text l.from))

abbrev pub decreases-loop-at : goal.decreases-loop-at
decreases-loop-at l = length l.text - l.at

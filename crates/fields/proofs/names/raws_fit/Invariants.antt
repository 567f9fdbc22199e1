use Prim.Native.Nat.{◌-◌, ◌≤◌}
use Rattle.rows.specs.Rows.{entries_of}
use Rattle.fields.specs.Names.{raws_fit}
use Rattle.fields.proofs.RawLaws.{FitLeft}
use Rattle.fields.proofs.names.raws_fit.Given as goal

abbrev pub invariant-loop-i : goal.invariant-loop-i
invariant-loop-i l = (l.i ≤ l.count) × FitLeft l.text l.tape l.count (raws_fit l.text (entries_of l.count l.tape)) l.i

abbrev pub decreases-loop-i : goal.decreases-loop-i
decreases-loop-i l = l.count - l.i

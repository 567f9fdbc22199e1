use mathlib.Core.Path.{◌≡◌}
use lib.ListN.{length, drop}
use Rattle.lent.specs.Marks.{kept_by}
use Rattle.lent.proofs.marks.kept.Given as goal

abbrev pub invariant-loop-i : goal.invariant-loop-i
invariant-loop-i g l = (l.i-end ≡ length l.s) × (kept_by g.T.PartialEq.eq g.T.Markable.mark (drop l.i l.s) l.i ≡ kept_by g.T.PartialEq.eq g.T.Markable.mark (drop l.from l.s) l.from)

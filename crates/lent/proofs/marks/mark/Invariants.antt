use mathlib.Core.Path.{◌≡◌}
use lib.ListN.{length}
use Rattle.lent.proofs.MarkLaws.{Marking}
use Rattle.lent.proofs.marks.mark.Given as goal

abbrev pub invariant-loop-i : goal.invariant-loop-i
invariant-loop-i g l = (l.i-end ≡ length l.initial.s) × (length l.s ≡ length l.initial.s) × Marking g.T.Markable.mark l.initial.s l.s l.i

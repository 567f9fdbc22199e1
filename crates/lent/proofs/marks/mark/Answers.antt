use native.Mathlib.Omega.{arith}
use mathlib.Core.Path.{refl}
use borrow.Author.Rules.{rules}
use Rattle.lent.proofs.MarkLaws.{mark_starts, mark_on, mark_ends}
use Rattle.lent.proofs.marks.mark.Goals as goal

pub loop-i-init : goal.loop-i-init
loop-i-init g c = (refl, refl, mark_starts g.T.Markable.mark c.args.s.now)

pub loop-i-preserved : goal.loop-i-preserved
loop-i-preserved g c = (search rules, search rules, mark_on g.T.Markable.mark c.args.s.now c.loop-i.s c.loop-i.i _ c.loop-i.invariant.2 (omega arith) c.mark_at.ensures)

pub returns : goal.returns
returns g c = mark_ends g.T.Markable.mark c.args.s.now c.loop-i.s c.loop-i.i c.loop-i.invariant.2 (omega arith)

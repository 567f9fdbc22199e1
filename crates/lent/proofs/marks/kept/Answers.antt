use native.Mathlib.Omega.{arith}
use mathlib.Core.Path.{refl}
use Rattle.lent.proofs.MarkLaws.{kept_off, kept_on, kept_ends}
use Rattle.lent.proofs.marks.kept.Goals as goal

pub returns-then-ne : goal.returns-then-ne
returns-then-ne g c =
    kept_off _ g.T.Markable.mark c.args.s.now c.args.from c.loop-i.i c.loop-i.invariant.1 (omega arith) c.index-s-i.result _ c.index-s-i.is c.mark_at.ensures c.if-ne.ensures

pub loop-i-preserved : goal.loop-i-preserved
loop-i-preserved g c =
    (refl, kept_on _ g.T.Markable.mark c.args.s.now c.args.from c.loop-i.i c.loop-i.invariant.1 (omega arith) c.index-s-i.result _ c.index-s-i.is c.mark_at.ensures c.if-ne.ensures)

pub returns : goal.returns
returns g c = kept_ends _ g.T.Markable.mark c.args.s.now c.args.from c.loop-i.i c.loop-i.invariant.1 (omega arith)

use native.Mathlib.Omega.{arith}
use borrow.Author.Rules.{rules}
use Rattle.lines.proofs.OutLaws.{put_on, put_ends}
use Rattle.lines.proofs.out.bytes.Goals as goal

pub loop-b-preserved : goal.loop-b-preserved
loop-b-preserved c = (search rules, put_on c.args.s.now c.loop-b.b-index _ (c.loop-b.out, c.loop-b.to) (omega arith) _ c.byte-to.ensures c.loop-b.invariant.1)

pub returns : goal.returns
returns c = put_ends c.args.s.now c.loop-b.b-index _ (c.loop-b.out, c.loop-b.to) (omega arith) c.loop-b.invariant.1

use native.Mathlib.Omega.{arith}
use Rattle.lines.proofs.OutLaws.{put_in, put_nowhere, put_front}
use Rattle.lines.proofs.out.byte.Goals as goal

pub returns-then-at-out : goal.returns-then-at-out
returns-then-at-out c = put_in c.args.out.now c.args.at c.args.b (omega arith)

pub returns-then-out-eq0 : goal.returns-then-out-eq0
returns-then-out-eq0 c = put_nowhere c.args.out.now c.args.at c.args.b (omega arith) (omega arith)

pub returns : goal.returns
returns c = put_front c.args.out.now c.args.at c.args.b (omega arith) c.if-out-eq0.false

use native.Mathlib.Omega.{arith}
use mathlib.Core.Path.{sym}
use Rattle.cursor.proofs.SkipLaws.{pre_apart, pre_joined, pre_mark}
use Rattle.cursor.proofs.ParserCursor.pre_ws.Goals as goal

pub returns-then-len : goal.returns-then-len
returns-then-len c = sym (pre_mark c.args.self c.if-len.true)

pub returns-then-at-pre : goal.returns-then-at-pre
returns-then-at-pre c = sym (pre_joined c.args.self c.if-len.false (omega arith))

pub returns-then-len-at : goal.returns-then-len-at
returns-then-len-at c = sym (pre_apart c.args.self c.if-len.false (omega arith))

pub returns-else-len-at : goal.returns-else-len-at
returns-else-len-at c = sym (pre_joined c.args.self c.if-len.false (omega arith))

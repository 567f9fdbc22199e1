use native.Mathlib.Omega.{arith}
use Rattle.repair.proofs.Checks.{cut_bad1, cut_bad2, cut_last}
use Rattle.repair.proofs.check.cut_fits.Goals as goal

pub returns-then-b-a : goal.returns-then-b-a
returns-then-b-a c = cut_bad1 c.args.old_len c.args.a c.args.b c.args.new_len c.if-b-a.true

pub returns-then-old_len-b : goal.returns-then-old_len-b
returns-then-old_len-b c = cut_bad2 c.args.old_len c.args.a c.args.b c.args.new_len (omega (arith, c.if-b-a.false)) c.if-old_len-b.true

pub returns : goal.returns
returns c = cut_last c.args.old_len c.args.a c.args.b c.args.new_len (omega (arith, c.if-b-a.false)) (omega (arith, c.if-old_len-b.false))

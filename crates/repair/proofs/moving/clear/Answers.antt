use Prim.Native.Nat.{◌-◌}
use native.Mathlib.Omega.{arith}
use borrow.Author.Rules.{rules}
use Rattle.repair.proofs.Clearing.{none_laid, zeros_laid}
use Rattle.repair.proofs.moving.clear.Goals as goal

pub returns-then-y-x : goal.returns-then-y-x
returns-then-y-x c = none_laid c.args.x c.args.y c.args.tape.now c.if-y-x.true

pub returns : goal.returns
returns c = zeros_laid c.args.x c.args.y c.begins.result (c.begins-2.result - c.begins.result) c.args.tape.now c.fill.new.self (omega arith) (omega (arith, c.requires)) c.begins.ensures (omega (arith, c.begins.ensures, c.begins-2.ensures)) (c.fill.ensures.after (search rules))

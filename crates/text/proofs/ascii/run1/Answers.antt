use native.Mathlib.Omega.{arith}
use mathlib.Core.Path.{◌∙◌, sym}
use borrow.Author.Rules.{rules}
use Rattle.text.proofs.RunLaws.{run_end, run_more, run_out}
use Rattle.text.specs.Runs.{ascii}
use Rattle.text.proofs.ascii.run1.Goals as goal

pub returns-then-not-is_ascii : goal.returns-then-not-is_ascii
returns-then-not-is_ascii c = omega (arith, c.loop-i.invariant, run_out ascii c.args.s.now c.loop-i.i (omega arith) (sym c.is_ascii.ensures ∙ c.if-not-is_ascii.true))

pub loop-i-preserved : goal.loop-i-preserved
loop-i-preserved c = omega (arith, c.loop-i.invariant, run_more ascii c.args.s.now c.loop-i.i (omega arith) (sym c.is_ascii.ensures ∙ c.if-not-is_ascii.false))

pub returns : goal.returns
returns c = omega (arith, c.loop-i.invariant, run_end ascii c.args.s.now c.loop-i.i (omega arith))

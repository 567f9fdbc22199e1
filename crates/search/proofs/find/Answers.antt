use native.Mathlib.Omega.{arith}
use mathlib.Core.Path.{◌∙◌, refl, sym}
use lib.ListN.{drop}
use borrow.Author.Rules.{rules}
use borrow.Author.Tests.{ltb-false}
use Rattle.text.specs.Runs.{run}
use Rattle.search.specs.inner.Others.{other}
use Rattle.search.proofs.SearchLaws.{run_past}
use Rattle.search.proofs.find.Goals as goal

pub loop-i-init : goal.loop-i-init
loop-i-init c = (search rules, refl)

pub returns-then-has : goal.returns-then-has
returns-then-has c = omega (arith, c.loop-i.invariant.1, c.find_one.ensures)

pub loop-i-preserved : goal.loop-i-preserved
loop-i-preserved c = (search rules, omega (arith, c.loop-i.invariant.1, run_past (other c.args.b) 16 c.args.s.now c.loop-i.i (ltb-false (run (other c.args.b) (drop c.loop-i.i c.args.s.now)) 16 (sym c.has.ensures ∙ c.if-has.false))))

pub returns : goal.returns
returns c = omega (arith, c.loop-i.invariant.1, c.find_one-2.ensures)

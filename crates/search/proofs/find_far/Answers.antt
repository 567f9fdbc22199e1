use native.Mathlib.Omega.{arith}
use mathlib.Core.Path.{◌∙◌, refl, sym}
use lib.ListN.{drop}
use borrow.Author.Rules.{rules}
use borrow.Author.Tests.{ltb-false}
use Rattle.text.specs.Runs.{run}
use Rattle.search.specs.inner.Others.{neither}
use Rattle.search.proofs.SearchLaws.{run_past}
use Rattle.search.proofs.find_far.Goals as goal

pub loop-i-init : goal.loop-i-init
loop-i-init c = (search rules, refl)

pub returns-then-has_either : goal.returns-then-has_either
returns-then-has_either c = omega (arith, c.loop-i.invariant.1, c.find_one_of.ensures)

pub loop-i-preserved : goal.loop-i-preserved
loop-i-preserved c = (search rules, omega (arith, c.loop-i.invariant.1, run_past (neither c.args.a c.args.b) 16 c.args.s.now c.loop-i.i (ltb-false (run (neither c.args.a c.args.b) (drop c.loop-i.i c.args.s.now)) 16 (sym c.has_either.ensures ∙ c.if-has_either.false))))

pub returns : goal.returns
returns c = omega (arith, c.loop-i.invariant.1, c.find_one_of-2.ensures)

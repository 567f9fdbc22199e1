use native.Mathlib.Omega.{arith}
use mathlib.Core.Path.{refl}
use Rattle.explain.proofs.ExcerptLaws.{caret_on, caret_ends}
use borrow.Author.Rules.{rules}
use Rattle.explain.proofs.excerpt.caret.Goals as goal

pub loop-i-init : goal.loop-i-init
loop-i-init c = (refl, refl, refl)

pub loop-i-preserved : goal.loop-i-preserved
loop-i-preserved c = (search rules, search rules, caret_on c.args.before.now c.loop-i.i _ (c.loop-i.o, c.loop-i.to) (omega arith) _ c.under-to.ensures c.loop-i.invariant.2)

pub returns : goal.returns
returns c = caret_ends c.args.before.now c.loop-i.i _ (c.loop-i.o, c.loop-i.to) (omega arith) _ c.byte.ensures c.loop-i.invariant.2

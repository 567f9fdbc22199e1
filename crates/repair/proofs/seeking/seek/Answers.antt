use native.Mathlib.Omega.{arith}
use mathlib.Core.Path.{◌∙◌, ◌≡◌}
use borrow.Author.Tests.{le-ltb, lt-ltb}
use Rattle.repair.proofs.Leading.{lead_end, lead_on, lead_out}
use Rattle.repair.specs.inner.Steps.{starts_before}
use Rattle.repair.proofs.seeking.seek.Goals as goal

pub returns-then-q-wide : goal.returns-then-q-wide
returns-then-q-wide c = lead_out (starts_before c.args.q) c.args.tape.now c.args.count c.loop-i.i _ (omega arith) c.entry-old.ensures (le-ltb c.entry-old.result.start c.args.q (omega (arith, c.wide.ensures, c.if-q-wide.true))) ∙ c.loop-i.invariant

pub loop-i-preserved : goal.loop-i-preserved
loop-i-preserved c = lead_on (starts_before c.args.q) c.args.tape.now c.args.count c.loop-i.i _ (omega arith) c.entry-old.ensures (lt-ltb c.entry-old.result.start c.args.q (omega (arith, c.wide.ensures, c.if-q-wide.false))) ∙ c.loop-i.invariant

pub returns : goal.returns
returns c = let z : c.args.count ≡ c.loop-i.i = omega (arith, c.requires.1) in z ∙ lead_end (starts_before c.args.q) c.args.tape.now c.args.count c.loop-i.i (omega arith) ∙ c.loop-i.invariant

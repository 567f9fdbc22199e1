use native.Mathlib.Omega.{arith}
use mathlib.Core.Path.{sym}
use borrow.Author.Tests.{eq-eqb, ne_eqb}
use Rattle.attributes.proofs.StepLaws.{value_small}
use Rattle.attributes.specs.Extensions.{added_to}
use Rattle.attributes.proofs.extensions.add.Goals as goal

pub nonzero_div-extensions : goal.nonzero_div-extensions
nonzero_div-extensions c = omega (arith, c.value-bit.ensures, (value_small c.args.e).0)

pub returns-then-extensions-bit-eq1 : goal.returns-then-extensions-bit-eq1
unfolding added_to
returns-then-extensions-bit-eq1 c = rw (sym c.value-bit.ensures, eq-eqb _ 1 c.if-extensions-bit-eq1.true)

pub overflow_add-sum : goal.overflow_add-sum
overflow_add-sum c = omega (arith, c.value-bit.ensures, (value_small c.args.e).1, c.requires)

pub returns : goal.returns
unfolding added_to
returns c = rw (sym c.value-bit.ensures, ne_eqb _ 1 c.if-extensions-bit-eq1.false)

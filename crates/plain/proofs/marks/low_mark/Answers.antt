use native.Mathlib.Omega.{arith}
use mathlib.Core.Path.{◌≡◌}
use Rattle.plain.proofs.PlainLaws.{low_none}
use Rattle.tokens.specs.Shapes.{mark_kind}
use Rattle.plain.proofs.marks.low_mark.Goals as goal

pub returns-then-a-gt57 : goal.returns-then-a-gt57
unfolding mark_kind
returns-then-a-gt57 c = let e : c.args.a ≡ 0x3a = omega (arith, c.if-a-gt57.true, c.requires) in rw e

pub returns-then-a-gt44 : goal.returns-then-a-gt44
returns-then-a-gt44 c = low_none c.args.a c.requires (λ e. omega (arith, e, c.if-a-gt44.true)) (λ e. omega (arith, e, c.if-a-gt44.true)) (λ e. omega (arith, e, c.if-a-gt44.true)) (λ e. omega (arith, e, c.if-a-gt57.false))

pub returns-then-a-gt43 : goal.returns-then-a-gt43
unfolding mark_kind
returns-then-a-gt43 c = let e : c.args.a ≡ 0x2c = omega (arith, c.if-a-gt43.true, c.if-a-gt44.false) in rw e

pub returns-then-a-gt41 : goal.returns-then-a-gt41
returns-then-a-gt41 c = low_none c.args.a c.requires (λ e. omega (arith, e, c.if-a-gt41.true)) (λ e. omega (arith, e, c.if-a-gt41.true)) (λ e. omega (arith, e, c.if-a-gt43.false)) (λ e. omega (arith, e, c.if-a-gt57.false))

pub returns-then-a-gt40 : goal.returns-then-a-gt40
unfolding mark_kind
returns-then-a-gt40 c = let e : c.args.a ≡ 0x29 = omega (arith, c.if-a-gt40.true, c.if-a-gt41.false) in rw e

pub returns-then-a-gt39 : goal.returns-then-a-gt39
unfolding mark_kind
returns-then-a-gt39 c = let e : c.args.a ≡ 0x28 = omega (arith, c.if-a-gt39.true, c.if-a-gt40.false) in rw e

pub returns : goal.returns
returns c = low_none c.args.a c.requires (λ e. omega (arith, e, c.if-a-gt39.false)) (λ e. omega (arith, e, c.if-a-gt39.false)) (λ e. omega (arith, e, c.if-a-gt39.false)) (λ e. omega (arith, e, c.if-a-gt39.false))

use Prim.Native.Nat.{ℕ, min}
use native.Mathlib.Omega.{arith}
use mathlib.Core.Path.{◌≡◌, ◌∙◌}
use lib.Dec.{ltb}
use borrow.Author.Tests.{ltb-true, ltb-false}
use Rattle.text.proofs.Choices.{cond_cases}
use Rattle.sarridok_c.specs.Packed.{at_most}
use Rattle.sarridok_c.proofs.packing.at_most.Goals as goal

pub returns : goal.returns
unfolding at_most
returns c = c.min.ensures ∙ cond_cases (λ (k : ℕ). min c.args.n c.args.most ≡ k) (ltb c.args.most c.args.n) c.args.most c.args.n (λ p. omega (arith, ltb-true c.args.most c.args.n p)) (λ p. omega (arith, ltb-false c.args.most c.args.n p))

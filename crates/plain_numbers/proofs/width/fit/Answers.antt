use native.Mathlib.Omega.{arith}
use mathlib.Core.Path.{ap, ◌∙◌}
use Rattle.integers.specs.Width.{code_of, first_fit}
use Rattle.plain_numbers.proofs.Said.{four_said, two_said}
use Rattle.plain_numbers.proofs.Values.{all_only}
use Rattle.plain_numbers.proofs.width.fit.Goals as goal

pub returns-then-s-lt3 : goal.returns-then-s-lt3
returns-then-s-lt3 c = c.fit_code.ensures ∙ two_said c.args.s.now c.args.minus (all_only c.args.s.now c.requires.1) (omega arith)

pub returns-then-s-ne48 : goal.returns-then-s-ne48
returns-then-s-ne48 c = c.fit_code-then-s-ne48.ensures ∙ four_said c.args.s.now c.args.minus (all_only c.args.s.now c.requires.1) c.if-s-eq4.true c.if-s-ne48.true

pub returns : goal.returns
returns c = c.fit_code-2.ensures ∙ ap (λ v. code_of (first_fit c.args.minus v)) c.value.ensures

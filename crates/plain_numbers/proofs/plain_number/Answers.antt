use native.Mathlib.Omega.{arith}
use mathlib.Core.Path.{ap, ◌∙◌}
use lib.ListN.{length, length-drop}
use Rattle.text.proofs.Lists.{tail_part}
use Rattle.integers.proofs.Fronts.{sign_le}
use Rattle.integers.specs.declared.front.Sign.{Sign}
use Rattle.plain_numbers.proofs.Said.{plain_said}
use Rattle.plain_numbers.proofs.plain_number.Goals as goal

pub slice_bounds-behind_sign-count : goal.slice_bounds-behind_sign-count
slice_bounds-behind_sign-count c = omega (arith, ap (λ (g : Sign). g.end) c.sign_of-sign.ensures, sign_le c.args.s.now)

pub slice_bounds-behind_sign-start : goal.slice_bounds-behind_sign-start
slice_bounds-behind_sign-start c = omega (arith, ap (λ (g : Sign). g.end) c.sign_of-sign.ensures, sign_le c.args.s.now)

pub behind_sign-requires : goal.behind_sign-requires
behind_sign-requires c = omega (arith, ap (λ (g : Sign). g.end) c.sign_of-sign.ensures, sign_le c.args.s.now, ap length (tail_part c.args.s.now c.sign_of-sign.result.end), length-drop c.sign_of-sign.result.end c.args.s.now)

pub returns : goal.returns
returns c = c.behind_sign.ensures ∙ plain_said c.args.s.now c.sign_of-sign.result c.sign_of-sign.ensures

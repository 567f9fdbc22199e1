use native.Mathlib.Omega.{arith}
use mathlib.Core.Path.{◌∙◌, ap}
use lib.ListN.{drop, length-drop}
use Rattle.floats.proofs.Laws.{float_none, float_plain, float_signed}
use Rattle.floats.specs.Float.{specials}
use Rattle.integers.proofs.Fronts.{sign_le}
use Rattle.integers.proofs.Words.{first_le}
use Rattle.integers.specs.Words.{first_of}
use Rattle.integers.specs.declared.front.Sign.{Sign}
use Rattle.integers.specs.declared.ident.Found.{Found}
use Rattle.text.proofs.Lists.{tail_part}
use Rattle.floats.proofs.float.float.Goals as goal

pub returns-then-front-eq0 : goal.returns-then-front-eq0
returns-then-front-eq0 c = c.run_at.ensures ∙ float_plain c.args.s.now c.sign_of-sign.result c.sign_of-sign.ensures c.if-front-eq0.true

pub slice_bounds-special-count : goal.slice_bounds-special-count
slice_bounds-special-count c = omega (arith, ap (λ (g : Sign). g.end) c.sign_of-sign.ensures, sign_le c.args.s.now)

pub slice_bounds-special-start : goal.slice_bounds-special-start
slice_bounds-special-start c = omega (arith, ap (λ (g : Sign). g.end) c.sign_of-sign.ensures, sign_le c.args.s.now)

pub returns-then-found-eq0 : goal.returns-then-found-eq0
returns-then-found-eq0 c = c.run_at-then-found-eq0.ensures ∙ float_none c.args.s.now c.sign_of-sign.result c.sign_of-sign.ensures c.special-found.result (c.special-found.ensures ∙ ap (first_of specials) (tail_part c.args.s.now c.sign_of-sign.result.end)) c.if-front-eq0.false c.if-found-eq0.true

pub overflow_add-end : goal.overflow_add-end
overflow_add-end c = omega (arith, ap (λ (f : Found). f.end) (c.special-found.ensures ∙ ap (first_of specials) (tail_part c.args.s.now c.sign_of-sign.result.end)), first_le specials (drop c.sign_of-sign.result.end c.args.s.now), length-drop c.sign_of-sign.result.end c.args.s.now, ap (λ (g : Sign). g.end) c.sign_of-sign.ensures, sign_le c.args.s.now)

pub returns : goal.returns
returns c = float_signed c.args.s.now c.sign_of-sign.result c.sign_of-sign.ensures c.special-found.result (c.special-found.ensures ∙ ap (first_of specials) (tail_part c.args.s.now c.sign_of-sign.result.end)) c.if-front-eq0.false c.if-found-eq0.false

use native.Mathlib.Omega.{arith}
use mathlib.Core.Path.{◌∙◌, ap}
use lib.ListN.{drop, length-drop}
use Rattle.integers.proofs.Fronts.{front_said, prefix_le, sign_le}
use Rattle.integers.specs.Front.{prefix_of}
use Rattle.integers.specs.declared.front.Prefix.{Prefix}
use Rattle.integers.specs.declared.front.Sign.{Sign}
use Rattle.text.proofs.Lists.{tail_part}
use Rattle.integers.proofs.front.front_of.Goals as goal

pub slice_bounds-prefix_of-count : goal.slice_bounds-prefix_of-count
slice_bounds-prefix_of-count c = omega (arith, ap (λ (g : Sign). g.end) c.sign_of-sign.ensures, sign_le c.args.s.now)

pub slice_bounds-prefix_of-start : goal.slice_bounds-prefix_of-start
slice_bounds-prefix_of-start c = omega (arith, ap (λ (g : Sign). g.end) c.sign_of-sign.ensures, sign_le c.args.s.now)

pub overflow_add-end : goal.overflow_add-end
overflow_add-end c =
    let s = c.args.s.now in
    let n = c.sign_of-sign.result.end in
    omega (arith, ap (λ (g : Sign). g.end) c.sign_of-sign.ensures, sign_le c.args.s.now, ap (λ (p : Prefix). p.end) (c.prefix_of-prefix.ensures ∙ ap prefix_of (tail_part s n)), prefix_le (drop n s), length-drop n s)

pub returns : goal.returns
returns c =
    let s = c.args.s.now in
    front_said s c.sign_of-sign.result c.prefix_of-prefix.result c.sign_of-sign.ensures (c.prefix_of-prefix.ensures ∙ ap prefix_of (tail_part s c.sign_of-sign.result.end))

use Rattle.std.proofs.Common.{Ok, Err}
use Prim.Native.Nat.{◌+◌}
use native.Mathlib.Omega.{arith}
use mathlib.Core.Path.{◌∙◌, ap, sym}
use borrow.Author.Tests.{eq-eqb}
use Rattle.integers.proofs.Fronts.{front_base}
use Rattle.integers.proofs.Readings.{any_said, front_within, read_within}
use Rattle.integers.specs.Integer.{any_of, numeral_of}
use Rattle.integers.specs.declared.front.Front.{Front}
use Rattle.integers.specs.declared.width.Width.{Width}
use Rattle.text.proofs.Lists.{tail_part}
use Rattle.integers.proofs.integer.any_integer.Goals as goal

pub returns-then-s-eq0 : goal.returns-then-s-eq0
unfolding any_of
returns-then-s-eq0 c = simp (eq-eqb _ _ c.if-s-eq0.true) (ap Err c.eof.ensures)

pub slice_bounds-digits_and_suffix-count : goal.slice_bounds-digits_and_suffix-count
slice_bounds-digits_and_suffix-count c = omega (arith, front_within c.args.s.now c.if-s-eq0.false c.front_of-front.result c.front_of-front.ensures)

pub slice_bounds-digits_and_suffix-start : goal.slice_bounds-digits_and_suffix-start
slice_bounds-digits_and_suffix-start c = omega (arith, front_within c.args.s.now c.if-s-eq0.false c.front_of-front.result c.front_of-front.ensures)

pub digits_and_suffix-read-requires : goal.digits_and_suffix-read-requires
digits_and_suffix-read-requires c = rw (ap (λ (g : Front). g.base) c.front_of-front.ensures) (front_base c.args.s.now)

pub overflow_add-result : goal.overflow_add-result
overflow_add-result c =
    let w = rw c.in-Ok.is at (read_within c.args.s.now c.if-s-eq0.false c.front_of-front.result c.front_of-front.ensures c.widest_of-asked.result c.digits_and_suffix-read.result (c.digits_and_suffix-read.ensures ∙ ap (numeral_of c.widest_of-asked.result c.front_of-front.result.minus c.front_of-front.result.base) (tail_part c.args.s.now c.front_of-front.result.end))) in
    omega (arith, w.1, front_within c.args.s.now c.if-s-eq0.false c.front_of-front.result c.front_of-front.ensures)

pub placed_behind-requires : goal.placed_behind-requires
placed_behind-requires c =
    let w = rw c.in-Err.is at (read_within c.args.s.now c.if-s-eq0.false c.front_of-front.result c.front_of-front.ensures c.widest_of-asked.result c.digits_and_suffix-read.result (c.digits_and_suffix-read.ensures ∙ ap (numeral_of c.widest_of-asked.result c.front_of-front.result.minus c.front_of-front.result.base) (tail_part c.args.s.now c.front_of-front.result.end))) in
    omega (arith, w, front_within c.args.s.now c.if-s-eq0.false c.front_of-front.result c.front_of-front.ensures)

pub returns-in-Ok : goal.returns-in-Ok
returns-in-Ok c = ap (λ (w : Width). Ok (w, c.front_of-front.result.end + c.in-Ok.end)) c.width_for-width.ensures ∙ any_said c.args.s.now c.if-s-eq0.false c.front_of-front.result c.front_of-front.ensures c.widest_of-asked.result c.widest_of-asked.ensures _ (sym c.in-Ok.is ∙ c.digits_and_suffix-read.ensures ∙ ap (numeral_of c.widest_of-asked.result c.front_of-front.result.minus c.front_of-front.result.base) (tail_part c.args.s.now c.front_of-front.result.end))

pub returns-in-Err : goal.returns-in-Err
returns-in-Err c = ap Err c.placed_behind.ensures ∙ any_said c.args.s.now c.if-s-eq0.false c.front_of-front.result c.front_of-front.ensures c.widest_of-asked.result c.widest_of-asked.ensures _ (sym c.in-Err.is ∙ c.digits_and_suffix-read.ensures ∙ ap (numeral_of c.widest_of-asked.result c.front_of-front.result.minus c.front_of-front.result.base) (tail_part c.args.s.now c.front_of-front.result.end))

use Prim.Native.Nat.{◌+◌}
use native.Mathlib.Omega.{arith}
use mathlib.Core.Path.{◌∙◌, ap, sym}
use borrow.Author.Tests.{eq-eqb}
use Rattle.integers.proofs.Fronts.{front_base}
use Rattle.integers.proofs.Readings.{front_within, read_within, typed_said}
use Rattle.integers.specs.Integer.{numeral_of, typed_of}
use Rattle.integers.specs.declared.front.Front.{Front}
use Rattle.integers.specs.declared.integer.Integer.TheVariants.{Read as readAs, Refused as refused}
use Rattle.integers.specs.declared.integer.Value.{Value}
use Rattle.text.proofs.Lists.{tail_part}
use Rattle.integers.proofs.integer.typed.Goals as goal

pub returns-then-s-eq0 : goal.returns-then-s-eq0
unfolding typed_of
returns-then-s-eq0 c = simp (eq-eqb _ _ c.if-s-eq0.true) (ap refused c.eof.ensures)

pub slice_bounds-digits_and_suffix-count : goal.slice_bounds-digits_and_suffix-count
slice_bounds-digits_and_suffix-count c = omega (arith, front_within c.args.s.now c.if-s-eq0.false c.front_of-front.result c.front_of-front.ensures)

pub slice_bounds-digits_and_suffix-start : goal.slice_bounds-digits_and_suffix-start
slice_bounds-digits_and_suffix-start c = omega (arith, front_within c.args.s.now c.if-s-eq0.false c.front_of-front.result c.front_of-front.ensures)

pub digits_and_suffix-read-requires : goal.digits_and_suffix-read-requires
digits_and_suffix-read-requires c = rw (ap (λ (g : Front). g.base) c.front_of-front.ensures) (front_base c.args.s.now)

pub returns-then-is_other : goal.returns-then-is_other
returns-then-is_other c = simp (sym c.is_other.ensures ∙ c.if-is_other.true) at (typed_said c.args.s.now c.if-s-eq0.false c.front_of-front.result c.front_of-front.ensures c.args.width c.code_of-asked.result c.code_of-asked.ensures _ (sym c.in-Ok.is ∙ c.digits_and_suffix-read.ensures ∙ ap (numeral_of c.code_of-asked.result c.front_of-front.result.minus c.front_of-front.result.base) (tail_part c.args.s.now c.front_of-front.result.end)))

pub overflow_add-result : goal.overflow_add-result
overflow_add-result c =
    let w = rw c.in-Ok.is at (read_within c.args.s.now c.if-s-eq0.false c.front_of-front.result c.front_of-front.ensures c.code_of-asked.result c.digits_and_suffix-read.result (c.digits_and_suffix-read.ensures ∙ ap (numeral_of c.code_of-asked.result c.front_of-front.result.minus c.front_of-front.result.base) (tail_part c.args.s.now c.front_of-front.result.end))) in
    omega (arith, w.1, front_within c.args.s.now c.if-s-eq0.false c.front_of-front.result c.front_of-front.ensures)

pub placed_behind-requires : goal.placed_behind-requires
placed_behind-requires c =
    let w = rw c.in-Err.is at (read_within c.args.s.now c.if-s-eq0.false c.front_of-front.result c.front_of-front.ensures c.code_of-asked.result c.digits_and_suffix-read.result (c.digits_and_suffix-read.ensures ∙ ap (numeral_of c.code_of-asked.result c.front_of-front.result.minus c.front_of-front.result.base) (tail_part c.args.s.now c.front_of-front.result.end))) in
    omega (arith, w, front_within c.args.s.now c.if-s-eq0.false c.front_of-front.result c.front_of-front.ensures)

pub returns-else-is_other : goal.returns-else-is_other
returns-else-is_other c = ap (λ (v : Value). readAs v (c.front_of-front.result.end + c.in-Ok.end)) c.value_of-value.ensures ∙ (simp (sym c.is_other.ensures ∙ c.if-is_other.false) at (typed_said c.args.s.now c.if-s-eq0.false c.front_of-front.result c.front_of-front.ensures c.args.width c.code_of-asked.result c.code_of-asked.ensures _ (sym c.in-Ok.is ∙ c.digits_and_suffix-read.ensures ∙ ap (numeral_of c.code_of-asked.result c.front_of-front.result.minus c.front_of-front.result.base) (tail_part c.args.s.now c.front_of-front.result.end))))

pub returns-in-Err : goal.returns-in-Err
returns-in-Err c = ap refused c.placed_behind.ensures ∙ typed_said c.args.s.now c.if-s-eq0.false c.front_of-front.result c.front_of-front.ensures c.args.width c.code_of-asked.result c.code_of-asked.ensures _ (sym c.in-Err.is ∙ c.digits_and_suffix-read.ensures ∙ ap (numeral_of c.code_of-asked.result c.front_of-front.result.minus c.front_of-front.result.base) (tail_part c.args.s.now c.front_of-front.result.end))

use Prim.Native.Nat.{ℕ}
use native.Mathlib.Omega.{arith}
use mathlib.Core.Path.{◌≡◌, ap, subst, sym, ◌∙◌}
use lib.ListN.{drop, length, length-drop, take}
use lib.Seq.{length-take-le}
use Rattle.text.proofs.Lists.{tail_part}
use Rattle.text.proofs.RunLaws.{run_le}
use Rattle.text.specs.Classes.{digit}
use Rattle.text.specs.Runs.{run}
use Rattle.plain_numbers.proofs.Said.{fraction_le, said_float, said_integer, said_long, said_loud, said_none}
use Rattle.plain_numbers.proofs.Values.{cut_all}
use Rattle.plain_numbers.specs.inner.PlainNumbers.{fraction_of}
use Rattle.plain_numbers.proofs.behind_sign.Goals as goal

pub returns-then-n-eq0 : goal.returns-then-n-eq0
returns-then-n-eq0 c = c.told.ensures ∙ said_none c.args.t.now c.args.sign c.digits_len-n.result c.digits_len-n.ensures c.if-n-eq0.true

pub slice_bounds-rest-count : goal.slice_bounds-rest-count
slice_bounds-rest-count c = omega (arith, c.digits_len-n.ensures, run_le digit c.args.t.now)

pub slice_bounds-rest-start : goal.slice_bounds-rest-start
slice_bounds-rest-start c = omega (arith, c.digits_len-n.ensures, run_le digit c.args.t.now)

pub overflow_add-len : goal.overflow_add-len
overflow_add-len c = omega (arith, c.digits_len-n.ensures, run_le digit c.args.t.now, c.requires)

pub overflow_add-whole : goal.overflow_add-whole
overflow_add-whole c = omega (arith, c.digits_len-n.ensures, run_le digit c.args.t.now, c.requires, c.fraction_len-fraction.ensures ∙ ap fraction_of (tail_part c.args.t.now c.digits_len-n.result), fraction_le (drop c.digits_len-n.result c.args.t.now), length-drop c.digits_len-n.result c.args.t.now)

pub returns-then-fraction-gt0 : goal.returns-then-fraction-gt0
returns-then-fraction-gt0 c = c.told-then-fraction-gt0.ensures ∙ said_float c.args.t.now c.args.sign c.digits_len-n.result c.digits_len-n.ensures c.if-n-eq0.false c.fraction_len-fraction.result c.fraction_len-fraction.ensures c.if-fraction-gt0.true

pub returns-then-n-gt9 : goal.returns-then-n-gt9
returns-then-n-gt9 c = c.told-then-n-gt9.ensures ∙ said_long c.args.t.now c.args.sign c.digits_len-n.result c.digits_len-n.ensures c.if-n-eq0.false c.fraction_len-fraction.result c.fraction_len-fraction.ensures c.if-fraction-gt0.false c.if-n-gt9.true

pub slice_bounds-fit-end : goal.slice_bounds-fit-end
slice_bounds-fit-end c = sym (length-take-le c.digits_len-n.result c.args.t.now (omega (arith, c.digits_len-n.ensures, run_le digit c.args.t.now)))

pub fit-requires : goal.fit-requires
fit-requires c = (omega (arith, length-take-le c.digits_len-n.result c.args.t.now (omega (arith, c.digits_len-n.ensures, run_le digit c.args.t.now)), c.if-n-gt9.false), subst (λ (k : ℕ). run digit (take k c.args.t.now) ≡ length (take k c.args.t.now)) (sym c.digits_len-n.ensures) (cut_all c.args.t.now))

pub returns-then-begins_quiet : goal.returns-then-begins_quiet
returns-then-begins_quiet c = c.told-then-begins_quiet.ensures ∙ said_integer c.args.t.now c.args.sign c.digits_len-n.result c.digits_len-n.ensures c.if-n-eq0.false c.fraction_len-fraction.result c.fraction_len-fraction.ensures c.if-fraction-gt0.false c.if-n-gt9.false (sym c.begins_quiet.ensures ∙ c.if-begins_quiet.true) c.fit.result c.fit.ensures

pub returns : goal.returns
returns c = c.told-2.ensures ∙ said_loud c.args.t.now c.args.sign c.digits_len-n.result c.digits_len-n.ensures c.if-n-eq0.false c.fraction_len-fraction.result c.fraction_len-fraction.ensures c.if-fraction-gt0.false (sym c.begins_quiet.ensures ∙ c.if-begins_quiet.false)

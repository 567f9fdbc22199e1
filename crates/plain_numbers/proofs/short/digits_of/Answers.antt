use native.Mathlib.Nat.{zero-add}
use native.Mathlib.Omega.{arith}
use mathlib.Core.Path.{◌≡◌, refl}
use borrow.Author.Rules.{rules}
use Rattle.text.proofs.ClassLaws.{above, below, inside}
use Rattle.text.proofs.RunLaws.{run_end, run_out}
use Rattle.text.specs.Classes.{digit}
use Rattle.text.specs.Runs.{run}
use Rattle.digits.specs.Value.{value_from}
use Rattle.plain_numbers.proofs.ShortLaws.{full, next_fits, passed_next, stopped}
use Rattle.plain_numbers.proofs.short.digits_of.Goals as goal

pub loop-i-init : goal.loop-i-init
unfolding value_from
loop-i-init c = (search rules, zero-add (run digit c.args.s.now), refl)

pub returns-then-s-i : goal.returns-then-s-i
returns-then-s-i c = stopped c.args.s.now c.loop-i.value c.loop-i.i c.loop-i.invariant (run_end digit c.args.s.now c.loop-i.i c.if-s-i.true)

pub returns-then-c-lt48 : goal.returns-then-c-lt48
unfolding digit
returns-then-c-lt48 c = stopped c.args.s.now c.loop-i.value c.loop-i.i c.loop-i.invariant (run_out digit c.args.s.now c.loop-i.i (omega arith) (below 0x30 0x39 _ c.if-c-lt48.true))

pub returns-then-c-gt57 : goal.returns-then-c-gt57
unfolding digit
returns-then-c-gt57 c = stopped c.args.s.now c.loop-i.value c.loop-i.i c.loop-i.invariant (run_out digit c.args.s.now c.loop-i.i (omega arith) (above 0x30 0x39 _ c.if-c-gt57.true))

pub overflow_mul-product : goal.overflow_mul-product
unfolding digit
overflow_mul-product c = omega (arith, next_fits c.args.s.now c.loop-i.value c.loop-i.i c.loop-i-test.true (omega arith) (inside 0x30 0x39 _ c.if-c-lt48.false c.if-c-gt57.false) c.loop-i.invariant)

pub overflow_add-value : goal.overflow_add-value
unfolding digit
overflow_add-value c = omega (arith, next_fits c.args.s.now c.loop-i.value c.loop-i.i c.loop-i-test.true (omega arith) (inside 0x30 0x39 _ c.if-c-lt48.false c.if-c-gt57.false) c.loop-i.invariant)

pub loop-i-preserved : goal.loop-i-preserved
unfolding digit
loop-i-preserved c = passed_next c.args.s.now c.loop-i.value c.loop-i.i c.loop-i-test.true (omega arith) (inside 0x30 0x39 _ c.if-c-lt48.false c.if-c-gt57.false) c.loop-i.invariant

pub returns : goal.returns
returns c =
    let e : c.loop-i.i ≡ 19 = omega arith in
    rw e at (full c.args.s.now c.loop-i.value c.loop-i.i c.loop-i.invariant c.loop-i-test.false)

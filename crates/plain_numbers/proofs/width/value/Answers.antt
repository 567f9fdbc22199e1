use native.Mathlib.Omega.{arith}
use mathlib.Core.Path.{refl}
use Prim.Native.Nat.{◌≤◌}
use lib.ListN.{drop_of_length-le, length}
use Rattle.digits.specs.Value.{value_from}
use Rattle.plain_numbers.proofs.Values.{digit_least, turned, turned_fits}
use Rattle.plain_numbers.proofs.width.value.Goals as goal

pub loop-c-init : goal.loop-c-init
loop-c-init c = refl

pub overflow_sub-d : goal.overflow_sub-d
overflow_sub-d c = digit_least c.args.s.now c.loop-c.acc c.loop-c.c-index (omega arith) c.requires.0 c.requires.1 c.loop-c.invariant

pub overflow_mul-product : goal.overflow_mul-product
overflow_mul-product c = omega (arith, turned_fits c.args.s.now c.loop-c.acc c.loop-c.c-index (omega arith) c.requires.0 c.requires.1 c.loop-c.invariant)

pub overflow_add-acc : goal.overflow_add-acc
overflow_add-acc c = omega (arith, turned_fits c.args.s.now c.loop-c.acc c.loop-c.c-index (omega arith) c.requires.0 c.requires.1 c.loop-c.invariant)

pub loop-c-preserved : goal.loop-c-preserved
loop-c-preserved c = turned c.args.s.now c.loop-c.acc c.loop-c.c-index (omega arith) c.requires.0 c.requires.1 c.loop-c.invariant

pub returns : goal.returns
unfolding value_from
returns c =
    let h : length c.args.s.now ≤ c.loop-c.c-index = omega arith in
    rw (drop_of_length-le c.args.s.now h) at c.loop-c.invariant

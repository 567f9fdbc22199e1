use native.Mathlib.Omega.{arith}
use Rattle.sarridok_c.specs.Packed.{pair_of}
use Rattle.sarridok_c.proofs.PackLaws.{at_most_fits}
use Rattle.sarridok_c.proofs.packing.pair.Goals as goal

pub overflow_mul-raised : goal.overflow_mul-raised
overflow_mul-raised c = omega (arith, c.at_most-above.ensures, at_most_fits 2147483647 c.args.high)

pub overflow_add-result : goal.overflow_add-result
overflow_add-result c = omega (arith, c.at_most-above.ensures, c.at_most-below.ensures, at_most_fits 2147483647 c.args.high, at_most_fits 4294967295 c.args.low)

pub returns : goal.returns
unfolding pair_of
returns c = omega (arith, c.at_most-above.ensures, c.at_most-below.ensures)

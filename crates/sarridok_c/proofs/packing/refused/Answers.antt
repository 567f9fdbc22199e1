use native.Mathlib.Omega.{arith}
use Prim.Native.Nat.{◌+◌, ◌*◌}
use Rattle.sarridok_c.specs.Packed.{refusal_word}
use Rattle.sarridok_c.proofs.PackLaws.{pair_fits}
use Rattle.sarridok_c.proofs.packing.refused.Goals as goal

pub overflow_add-result : goal.overflow_add-result
overflow_add-result c =
    omega (arith, c.pair-word.ensures, pair_fits (c.args.refusal.number + 256 * c.args.refusal.reason) c.args.refusal.place)

pub returns : goal.returns
unfolding refusal_word
returns c = omega (arith, c.pair-word.ensures)

use native.Mathlib.Omega.{arith}
use mathlib.Core.Path.{sym}
use Rattle.words.proofs.Pairs.{pair_first, pair_second, pair_both}
use Rattle.words.proofs.hex.pair.Goals as goal

pub returns-then-x-ge16 : goal.returns-then-x-ge16
returns-then-x-ge16 c = sym (pair_first _ _ (omega arith))

pub returns-then-y-ge16 : goal.returns-then-y-ge16
returns-then-y-ge16 c = sym (pair_second _ _ (omega arith))

pub returns : goal.returns
returns c = omega (arith, pair_both c.args.a c.args.b (omega arith) (omega arith))

use mathlib.Core.Path.{◌∙◌, ap, refl}
use Rattle.sarridok_c.specs.Packed.{pair_of}
use Rattle.sarridok_c.proofs.integer_c.word.Goals as goal

pub returns-in-Ok : goal.returns-in-Ok
returns-in-Ok c = rw c.in-Ok.is (c.pair.ensures ∙ ap (λ n. pair_of n c.in-Ok.t.end) c.bit.ensures, refl)

pub returns-in-Err : goal.returns-in-Err
returns-in-Err c = rw c.in-Err.is (c.refused.ensures, refl)

use mathlib.Core.Path.{refl}
use Rattle.sarridok_c.proofs.skip_c.word.Goals as goal

pub returns-in-Ok : goal.returns-in-Ok
returns-in-Ok c = rw c.in-Ok.is (c.pair.ensures, refl, refl)

pub returns-in-Err : goal.returns-in-Err
returns-in-Err c = rw c.in-Err.is (c.refused.ensures, refl, refl)

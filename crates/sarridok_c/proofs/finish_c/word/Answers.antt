use mathlib.Core.Path.{refl}
use Rattle.sarridok_c.proofs.finish_c.word.Goals as goal

pub returns-in-Stopped : goal.returns-in-Stopped
returns-in-Stopped c = rw c.in-Stopped.is (c.refused.ensures, refl)

pub returns-in-Refused : goal.returns-in-Refused
returns-in-Refused c = rw c.in-Refused.is (c.refused-in-Refused.ensures, refl)

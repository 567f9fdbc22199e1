use mathlib.Core.Path.{refl}
use Rattle.sarridok_c.proofs.piece_c.word.Goals as goal

pub returns-in-Given : goal.returns-in-Given
returns-in-Given c = rw c.in-Given.is (refl, c.store.ensures, refl)

pub returns-in-Stopped : goal.returns-in-Stopped
returns-in-Stopped c = rw c.in-Stopped.is (c.refused.ensures, c.store-in-Stopped.ensures, refl)

pub returns-in-Refused : goal.returns-in-Refused
returns-in-Refused c = rw c.in-Refused.is (c.refused-in-Refused.ensures, refl, refl)

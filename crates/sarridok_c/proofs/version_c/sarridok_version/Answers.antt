use mathlib.Core.Path.{refl}
use Rattle.sarridok_c.proofs.version_c.sarridok_version.Goals as goal

pub returns : goal.returns
returns c = refl

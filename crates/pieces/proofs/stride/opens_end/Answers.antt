use mathlib.Core.Path.{◌∙◌, ap, sym}
use Rattle.pieces.specs.inner.Waiting.{opens_end}
use Rattle.pieces.proofs.stride.opens_end.Goals as goal

pub returns-in-Err : goal.returns-in-Err
returns-in-Err c = c.tells_end.ensures ∙ ap opens_end (sym c.in-Err.is)

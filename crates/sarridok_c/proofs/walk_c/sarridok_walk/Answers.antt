use mathlib.Core.Path.{◌∙◌, ap}
use Rattle.sarridok_c.specs.Packed.{packed}
use Rattle.sarridok_c.specs.Words.{done_word}
use Rattle.sarridok_c.proofs.walk_c.sarridok_walk.Goals as goal

pub returns : goal.returns
returns c = (c.done.ensures ∙ ap (packed done_word) c.walk.ensures.answer, c.walk.ensures.left)

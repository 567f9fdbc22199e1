use mathlib.Core.Path.{◌∙◌, ap}
use Rattle.sarridok_c.specs.Packed.{packed}
use Rattle.sarridok_c.specs.Words.{count_word}
use Rattle.sarridok_c.proofs.read_c.sarridok_read.Goals as goal

pub returns : goal.returns
returns c = (c.counted.ensures ∙ ap (packed count_word) c.read.ensures.0, c.read.ensures.1)

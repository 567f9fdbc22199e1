use mathlib.Core.Path.{◌∙◌, ap}
use Rattle.sarridok_c.specs.Packed.{packed}
use Rattle.sarridok_c.specs.Words.{span_word}
use Rattle.sarridok_c.proofs.contents_c.sarridok_contents.Goals as goal

pub returns : goal.returns
returns c = c.word.ensures ∙ ap (packed span_word) c.contents.ensures

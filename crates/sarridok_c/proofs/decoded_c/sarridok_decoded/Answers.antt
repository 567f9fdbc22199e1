use mathlib.Core.Path.{◌∙◌, ap}
use Rattle.sarridok_c.specs.Packed.{packed}
use Rattle.sarridok_c.specs.Words.{count_word}
use Rattle.sarridok_c.proofs.decoded_c.sarridok_decoded.Goals as goal

pub returns : goal.returns
returns c = (c.counted.ensures ∙ ap (packed count_word) c.decoded.ensures.result_value, c.decoded.ensures.out_after)

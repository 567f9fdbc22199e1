use mathlib.Core.Path.{◌∙◌, ap}
use Rattle.sarridok_c.specs.Packed.{packed}
use Rattle.sarridok_c.specs.Words.{done_word}
use Rattle.sarridok_c.proofs.integers_c.sarridok_integers.Goals as goal

pub returns : goal.returns
returns c =
    record {
      answer = c.done.ensures ∙ ap (packed done_word) c.integers.ensures.answer;
      magnitudes = c.integers.ensures.magnitudes;
      codes = c.integers.ensures.codes;
    }

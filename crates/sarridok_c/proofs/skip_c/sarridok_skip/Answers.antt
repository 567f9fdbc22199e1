use mathlib.Core.Path.{◌∙◌, ap}
use Rattle.sarridok_c.specs.Packed.{packed, lent_after}
use Rattle.sarridok_c.specs.Words.{cursor_word, pre_of, length_of}
use Rattle.sarridok_c.proofs.skip_c.sarridok_skip.Goals as goal

pub returns : goal.returns
returns c =
    record {
      answer = c.word.ensures.0 ∙ ap (packed cursor_word) c.skip.ensures;
      pre = c.word.ensures.1 ∙ ap (λ t. lent_after pre_of t c.args.new_pre_ws_cursor.now) c.skip.ensures;
      len = c.word.ensures.2 ∙ ap (λ t. lent_after length_of t c.args.new_last_ws_len.now) c.skip.ensures;
    }

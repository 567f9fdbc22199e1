use mathlib.Core.Path.{◌∙◌, ap}
use Rattle.sarridok_c.specs.Packed.{packed, lent_after}
use Rattle.sarridok_c.specs.Words.{repaired_word, before_of, behind_of}
use Rattle.sarridok_c.proofs.repair_c.sarridok_repair.Goals as goal

pub returns : goal.returns
returns c =
    record {
      answer = c.word.ensures.0 ∙ ap (packed repaired_word) c.repair.ensures.0;
      entries = c.repair.ensures.1;
      before = c.word.ensures.1 ∙ ap (λ t. lent_after before_of t c.args.before.now) c.repair.ensures.0;
      behind = c.word.ensures.2 ∙ ap (λ t. lent_after behind_of t c.args.behind.now) c.repair.ensures.0;
    }

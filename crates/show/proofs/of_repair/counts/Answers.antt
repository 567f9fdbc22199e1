use mathlib.Core.List.{◌++◌}
use Rattle.lines.specs.Ascii.{ascii}
use Rattle.lines.specs.Decimal.{word_of}
use Rattle.lines.proofs.OutLaws.{then}
use Rattle.show.specs.Repairs.{counts_text}
use Rattle.show.proofs.of_repair.counts.Goals as goal

pub returns : goal.returns
unfolding counts_text
returns c = then (c.args.o.now, c.args.at) _ _ (ascii "ok" ++ word_of c.args.n ++ word_of c.args.before) (word_of c.args.behind)
    (then (c.args.o.now, c.args.at) _ _ (ascii "ok" ++ word_of c.args.n) (word_of c.args.before) (then (c.args.o.now, c.args.at) _ _ (ascii "ok") (word_of c.args.n) c.bytes-a.ensures c.word-b.ensures) c.word-c.ensures) c.word.ensures

use mathlib.Core.List.{◌++◌}
use Rattle.lines.proofs.OutLaws.{then}
use Rattle.lines.specs.Ascii.{ascii}
use Rattle.lines.specs.Decimal.{word_of}
use Rattle.show.specs.Readings.{read_text, tape_text}
use Rattle.show.proofs.of_read.accepted.Goals as goal

pub returns : goal.returns
unfolding read_text
returns c = then (c.args.o.now, c.args.at) _ _ (ascii "ok" ++ word_of c.args.n) (tape_text c.args.between c.args.tape.now c.args.n)
    (then (c.args.o.now, c.args.at) _ _ (ascii "ok") (word_of c.args.n) c.bytes-a.ensures c.word-b.ensures) c.entries.ensures

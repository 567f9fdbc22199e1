use mathlib.Core.List.{◌++◌}
use Rattle.lines.specs.Decimal.{word_of}
use Rattle.lines.proofs.OutLaws.{then}
use Rattle.show.specs.Skips.{length_text, cursor_text}
use Rattle.show.proofs.skip.cursor.Goals as goal

pub returns : goal.returns
unfolding cursor_text
returns c = then (c.args.o.now, c.args.at) _ _ (word_of c.args.c.cursor ++ word_of c.args.c.pre_ws_cursor) (length_text c.args.c.last_ws_len)
    (then (c.args.o.now, c.args.at) _ _ (word_of c.args.c.cursor) (word_of c.args.c.pre_ws_cursor) c.word-a.ensures c.word-b.ensures) c.length.ensures

use native.Mathlib.Omega.{arith}
use mathlib.Core.Path.{ap, ◌∙◌}
use lib.ListN.{length}
use Rattle.lines.specs.Out.{put}
use Rattle.rows.specs.Rows.{room_of, entry_at}
use Rattle.rows.specs.declared.Entry.{Entry}
use Rattle.show.proofs.ShownLaws.{put_skipped, put_chosen}
use Rattle.arrive.specs.Printed.{line_text}
use Rattle.arrive.proofs.said.row_line.Goals as goal

pub returns-then-room-i : goal.returns-then-room-i
returns-then-room-i c = put_skipped (c.args.o.now, c.args.at) c.args.i (room_of (length c.args.tape.now)) (line_text (entry_at c.args.tape.now c.args.i)) (omega (arith, c.room.ensures, c.if-room-i.true))

pub returns : goal.returns
returns c =
    put_chosen (c.args.o.now, c.args.at) c.args.i (room_of (length c.args.tape.now)) _ (line_text (entry_at c.args.tape.now c.args.i)) (omega (arith, c.room.ensures, c.if-room-i.false))
    (c.line.ensures ∙ ap (λ (e : Entry). put (c.args.o.now, c.args.at) (line_text e)) c.entry.ensures)

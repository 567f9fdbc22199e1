use native.Mathlib.Omega.{arith}
use mathlib.Core.List.{◌∷◌, ◌++◌}
use mathlib.Core.Path.{ap, ◌∙◌}
use lib.ListN.{length}
use Rattle.lines.specs.Decimal.{decimal, word_of}
use Rattle.lines.specs.Out.{put}
use Rattle.lines.proofs.OutLaws.{put_behind, then}
use Rattle.rows.specs.Rows.{room_of, entry_at}
use Rattle.rows.specs.declared.Entry.{Entry}
use Rattle.show.specs.Readings.{entry_text}
use Rattle.show.proofs.ShownLaws.{put_skipped, put_chosen}
use Rattle.show.proofs.of_read.entry.Goals as goal

pub returns-then-room-i : goal.returns-then-room-i
returns-then-room-i c = put_skipped (c.args.o.now, c.args.at) c.args.i (room_of (length c.args.tape.now)) _ (omega (arith, c.room.ensures, c.if-room-i.true))

pub shape_of-o : goal.shape_of-o
shape_of-o c = c.word.auto.out ∙ c.word-f.auto.out ∙ c.word-d.auto.out ∙ c.word-c.auto.out ∙ c.number-b.auto.out ∙ c.byte-a.auto.out

pub returns : goal.returns
unfolding entry_text
returns c = put_chosen (c.args.o.now, c.args.at) c.args.i (room_of (length c.args.tape.now)) _ (entry_text c.args.between (entry_at c.args.tape.now c.args.i)) (omega (arith, c.room.ensures, c.if-room-i.false))
    (then (c.args.o.now, c.args.at) _ _ ((c.args.between ∷ decimal c.entry-e.result.kind) ++ word_of c.entry-e.result.start ++ word_of c.entry-e.result.end ++ word_of c.entry-e.result.detail) (word_of c.entry-e.result.gap)
    (then (c.args.o.now, c.args.at) _ _ ((c.args.between ∷ decimal c.entry-e.result.kind) ++ word_of c.entry-e.result.start ++ word_of c.entry-e.result.end) (word_of c.entry-e.result.detail)
    (then (c.args.o.now, c.args.at) _ _ ((c.args.between ∷ decimal c.entry-e.result.kind) ++ word_of c.entry-e.result.start) (word_of c.entry-e.result.end)
    (then (c.args.o.now, c.args.at) _ _ (c.args.between ∷ decimal c.entry-e.result.kind) (word_of c.entry-e.result.start)
    (put_behind (c.args.o.now, c.args.at) _ _ c.args.between (decimal c.entry-e.result.kind) c.byte-a.ensures c.number-b.ensures) c.word-c.ensures) c.word-d.ensures) c.word-f.ensures) c.word.ensures
    ∙ ap (λ (e : Entry). put (c.args.o.now, c.args.at) (entry_text c.args.between e)) c.entry-e.ensures)

use Prim.Native.Nat.{ℕ}
use mathlib.Core.List.{List}
use Rattle.tapes.specs.Reads.{tape_after, reads_text, read_in}
use Rattle.lines.proofs.LineLaws.{lent_front, lent_whole}
use Rattle.tapes.proofs.reads.answer.Goals as goal

pub returns-then-room-tape : goal.returns-then-room-tape
unfolding read_in
returns-then-room-tape c =
    let text : List ℕ = c.args.text.now in
    lent_front (reads_text text) (tape_after text) c.args.room c.args.tape.now (c.args.o.now, c.args.at) _ _ c.read.ensures

pub returns : goal.returns
unfolding read_in
returns c =
    let text : List ℕ = c.args.text.now in
    lent_whole (reads_text text) (tape_after text) c.args.room c.args.tape.now (c.args.o.now, c.args.at) _ _ c.if-room-tape.false c.read-2.ensures

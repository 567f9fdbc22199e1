use Prim.Native.Nat.{ℕ}
use mathlib.Core.List.{List, ◌++◌}
use mathlib.Core.Path.{ap}
use Rattle.lines.proofs.OutLaws.{then, then_as}
use Rattle.lines.specs.Ascii.{ascii}
use Rattle.lines.specs.Decimal.{word_of}
use Rattle.places.specs.Columns.{column_of}
use Rattle.places.specs.Lines.{line_of}
use Rattle.explain.specs.Explained.{position_text}
use Rattle.explain.proofs.answer.position.Goals as goal

pub returns : goal.returns
unfolding position_text
returns c =
    let out : List ℕ × ℕ = (c.args.o.now, c.args.at) in
    let line : List ℕ = ascii "line" in
    let l : List ℕ = word_of (line_of c.args.s.now c.args.place) in
    let of : List ℕ = ascii ", column" in
    let k : List ℕ = word_of (column_of c.args.s.now c.args.place) in
    then out _ _ (line ++ l ++ of ++ k) (ascii ": ")
    (then_as out _ _ (line ++ l ++ of) _ k
    (then out _ _ (line ++ l) of (then_as out _ _ line _ l c.bytes-a.ensures c.word-b.ensures (ap word_of c.line_of.ensures)) c.bytes-c.ensures)
    c.word-d.ensures (ap word_of c.column_of.ensures))
    c.bytes.ensures

use Prim.Native.Nat.{ℕ}
use mathlib.Core.List.{List, ◌++◌}
use Rattle.lines.proofs.OutLaws.{then}
use Rattle.lines.specs.Ascii.{ascii}
use Rattle.lines.specs.Decimal.{word_of}
use Rattle.text.specs.declared.refusal.Refusal.{Refusal}
use Rattle.show.specs.Answers.{placed_text}
use Rattle.show.proofs.placed.Goals as goal

pub returns : goal.returns
unfolding placed_text
returns c =
    let out : List ℕ × ℕ = (c.args.o.now, c.args.at) in
    let r : Refusal = c.args.r in
    then out _ _ (ascii "refused") (word_of r.number ++ word_of r.place) c.bytes-a.ensures
    (then _ _ _ (word_of r.number) (word_of r.place) c.word-b.ensures c.word.ensures)

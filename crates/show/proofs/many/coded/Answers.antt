use Prim.Native.Nat.{ℕ}
use mathlib.Core.List.{List, ◌∷◌}
use Rattle.lines.specs.Decimal.{decimal, word_of}
use Rattle.lines.proofs.OutLaws.{then, put_behind}
use Rattle.show.specs.Many.{coded_text}
use Rattle.show.proofs.many.coded.Goals as goal

pub returns : goal.returns
unfolding coded_text
returns c =
    let out : List ℕ × ℕ = (c.args.o.now, c.args.at) in
    then out _ _ (c.args.between ∷ decimal c.args.magnitude) (word_of c.args.code)
    (put_behind out _ _ c.args.between (decimal c.args.magnitude) c.byte-a.ensures c.number-b.ensures) c.word.ensures

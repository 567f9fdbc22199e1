use Prim.Native.Nat.{ℕ}
use mathlib.Core.List.{List, ◌++◌}
use Rattle.lines.proofs.OutLaws.{then}
use Rattle.lines.specs.Ascii.{ascii}
use Rattle.explain.specs.Excerpts.{characters_text}
use Rattle.explain.specs.Explained.{named_text}
use Rattle.explain.proofs.answer.named.Goals as goal

pub returns : goal.returns
unfolding named_text
returns c =
    let out : List ℕ × ℕ = (c.args.o.now, c.args.at) in
    let front : List ℕ = ascii "the field " in
    let name : List ℕ = characters_text 120 c.args.name.now in
    then out _ _ (front ++ name) (ascii " is named here first\n") (then out _ _ front name c.bytes-a.ensures c.characters-b.ensures) c.bytes.ensures

use Prim.Native.Nat.{ℕ}
use mathlib.Core.List.{List}
use Rattle.cases.proofs.ContentsLaws.{decoding_said}
use Rattle.cases.proofs.contents.decoding.Goals as goal

pub returns : goal.returns
returns c =
    let out : List ℕ × ℕ = (c.args.o.now, c.args.at) in
    decoding_said out _ _ c.args.buffer.now _ _ _ c.decoded-a.ensures c.written.ensures c.kept-clean.ensures c.clean.ensures

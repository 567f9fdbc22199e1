use Prim.Native.Nat.{ℕ}
use mathlib.Core.List.{List}
use Rattle.cases.proofs.ContentsLaws.{view_said}
use Rattle.cases.proofs.contents.viewed.Goals as goal

pub returns : goal.returns
returns c =
    let text : List ℕ = c.args.text.now in
    let tape : List ℕ = c.args.tape.now in
    let out : List ℕ × ℕ = (c.args.o.now, c.args.at) in
    view_said text tape c.args.q out _ _ _ c.contents-view.ensures c.view-a.ensures c.bytes.ensures

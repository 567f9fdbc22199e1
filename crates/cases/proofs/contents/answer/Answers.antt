use Prim.Native.Nat.{ℕ}
use mathlib.Core.List.{List}
use Rattle.cases.proofs.ContentsLaws.{lent_part, lent_all}
use Rattle.cases.proofs.contents.answer.Goals as goal

pub returns-then-n-spare : goal.returns-then-n-spare
returns-then-n-spare c =
    let text : List ℕ = c.args.text.now in
    let tape : List ℕ = c.args.tape.now in
    let out : List ℕ × ℕ = (c.args.o.now, c.args.at) in
    lent_part text tape c.args.q c.args.spare.now _ c.room-n.ensures out _ _ c.both.ensures.0 c.both.ensures.1

pub returns : goal.returns
returns c =
    let text : List ℕ = c.args.text.now in
    let tape : List ℕ = c.args.tape.now in
    let out : List ℕ × ℕ = (c.args.o.now, c.args.at) in
    lent_all text tape c.args.q c.args.spare.now _ c.room-n.ensures out _ _ c.if-n-spare.false c.both-2.ensures.0 c.both-2.ensures.1

use Prim.Native.Nat.{ℕ}
use mathlib.Core.List.{List}
use Rattle.tapes.specs.Walks.{links_left, walks_text, walk_in}
use Rattle.tapes.specs.declared.walks.Asked.{Asked}
use Rattle.lines.proofs.LineLaws.{lent_front, lent_whole}
use Rattle.tapes.proofs.walks.answer.Goals as goal

pub returns-then-room-links : goal.returns-then-room-links
unfolding walk_in
returns-then-room-links c =
    let text : List ℕ = c.args.text.now in
    let tape : List ℕ = c.args.tape.now in
    let q : Asked = c.args.q in
    lent_front (walks_text text tape q) (links_left text tape q) q.room c.args.links.now (c.args.o.now, c.args.at) _ _ c.walked.ensures

pub returns : goal.returns
unfolding walk_in
returns c =
    let text : List ℕ = c.args.text.now in
    let tape : List ℕ = c.args.tape.now in
    let q : Asked = c.args.q in
    lent_whole (walks_text text tape q) (links_left text tape q) q.room c.args.links.now (c.args.o.now, c.args.at) _ _ c.if-room-links.false c.walked-2.ensures

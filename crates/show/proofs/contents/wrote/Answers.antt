use Prim.Native.Nat.{ℕ}
use mathlib.Core.List.{List}
use Rattle.show.proofs.ContentsLaws.{bytes_none, bytes_some}
use Rattle.show.proofs.contents.wrote.Goals as goal

pub returns-then-s-eq0 : goal.returns-then-s-eq0
returns-then-s-eq0 c =
    let s : List ℕ = c.args.s.now in
    let out : List ℕ × ℕ = (c.args.o.now, c.args.at) in
    bytes_none s out _ _ c.bytes-a.ensures c.word-b.ensures c.if-s-eq0.true

pub returns : goal.returns
returns c =
    let s : List ℕ = c.args.s.now in
    let out : List ℕ × ℕ = (c.args.o.now, c.args.at) in
    bytes_some s out _ _
    c.bytes-a.ensures c.word-b.ensures c.if-s-eq0.false
    _ _ c.byte-c.ensures c.bytes.ensures

use Prim.Native.Nat.{ℕ}
use mathlib.Core.List.{List}
use Rattle.explain.proofs.ExcerptLaws.{margin_cut, margin_whole}
use Rattle.explain.proofs.excerpt.margin.Goals as goal

pub returns-then-cut : goal.returns-then-cut
returns-then-cut c =
    let out : List ℕ × ℕ = (c.args.o.now, c.args.at) in
    margin_cut c.args.b out _ c.args.cut c.if-cut.true _ _ _ c.bytes-a.ensures c.byte-c.ensures c.byte-d.ensures c.byte.ensures

pub returns : goal.returns
returns c =
    let out : List ℕ × ℕ = (c.args.o.now, c.args.at) in
    margin_whole c.args.b out _ c.args.cut c.if-cut.false c.bytes-a.ensures

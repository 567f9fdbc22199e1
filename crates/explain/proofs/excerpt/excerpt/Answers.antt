use Prim.Native.Nat.{ℕ}
use mathlib.Core.List.{List}
use Rattle.explain.proofs.ExcerptLaws.{excerpt_pieces}
use Rattle.explain.proofs.excerpt.excerpt.Goals as goal

pub returns : goal.returns
returns c =
    let out : List ℕ × ℕ = (c.args.o.now, c.args.at) in
    excerpt_pieces c.args.s.now c.args.place c.chars_back-from.result c.line_start.result c.line_end.result out _ _ _ _ _ _ _ _
    c.chars_back-from.ensures c.line_start.ensures c.line_end.ensures c.margin-a.ensures c.characters-b.ensures c.part.ensures c.byte-c.ensures
    c.margin-d.ensures c.caret-e.ensures c.part-2.ensures c.byte.ensures

use Prim.Native.Nat.{ℕ}
use mathlib.Core.List.{List}
use Rattle.lines.proofs.OutLaws.{then}
use Rattle.explain.specs.Explained.{begun_text, refused_text, refusal_text}
use Rattle.explain.proofs.answer.refused.Goals as goal

pub returns : goal.returns
unfolding refusal_text
returns c =
    let out : List ℕ × ℕ = (c.args.o.now, 0) in
    let s : List ℕ = c.args.s.now in
    then out _ _ (refused_text s c.args.f c.args.at) (begun_text s c.args.b) c.refusal-end.ensures c.began.ensures

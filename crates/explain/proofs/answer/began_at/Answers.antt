use Prim.Native.Nat.{ℕ}
use mathlib.Core.List.{List, ◌++◌}
use mathlib.Core.Path.{ap, ◌∙◌}
use Rattle.lines.proofs.OutLaws.{then}
use Rattle.lines.specs.Out.{put}
use Rattle.explain.specs.Excerpts.{excerpt_text}
use Rattle.explain.specs.Explained.{position_text, began_at, began_text}
use Rattle.explain.proofs.answer.began_at.Goals as goal

pub returns : goal.returns
unfolding began_at began_text
returns c =
    let out : List ℕ × ℕ = (c.args.o.now, c.args.at) in
    let s : List ℕ = c.args.s.now in
    let said : List ℕ = c.args.said.now in
    let p : ℕ = c.within-place.result in
    let where-it-is : List ℕ = position_text s p in
    then out _ _ (where-it-is ++ said) (excerpt_text s p) (then out _ _ where-it-is said c.position-a.ensures c.bytes-b.ensures) c.excerpt.ensures
    ∙ ap (λ (k : ℕ). put out (began_at s said k)) c.within-place.ensures

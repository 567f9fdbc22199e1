use Prim.Native.Nat.{ℕ}
use mathlib.Core.List.{List, ◌++◌}
use mathlib.Core.Path.{ap, ◌∙◌}
use Rattle.lines.proofs.OutLaws.{then}
use Rattle.lines.specs.Out.{put}
use Rattle.explain.specs.Excerpts.{excerpt_text}
use Rattle.explain.specs.Explained.{position_text, reason_text, refused_at, refused_text}
use Rattle.explain.proofs.answer.refusal.Goals as goal

pub returns : goal.returns
unfolding refused_at refused_text
returns c =
    let out : List ℕ × ℕ = (c.args.o.now, 0) in
    let s : List ℕ = c.args.s.now in
    let p : ℕ = c.within-place.result in
    let where-it-is : List ℕ = position_text s p in
    let why : List ℕ = reason_text c.args.f in
    then out _ _ (where-it-is ++ why) (excerpt_text s p) (then out _ _ where-it-is why c.position-a.ensures c.reason-b.ensures) c.excerpt.ensures
    ∙ ap (λ (k : ℕ). put out (refused_at s c.args.f k)) c.within-place.ensures

use Prim.Native.Nat.{ℕ}
use mathlib.Core.List.{List}
use Rattle.tapes.proofs.WalkLaws.{links-left, walked_said, refused_said}
use Rattle.tapes.proofs.walks.walked.Goals as goal

pub returns-in-Ok : goal.returns-in-Ok
returns-in-Ok c =
    let text : List ℕ = c.args.text.now in
    let tape : List ℕ = c.args.tape.now in
    let links : List ℕ = c.args.links.now in (
      walked_said text tape c.args.q links _ _ c.mark.ensures c.walk-answer.ensures.left (c.args.o.now, c.args.at) _ _ _ c.clean.ensures
          _ c.walk-answer.ensures.answer c.in-Ok.is _ c.first.ensures c.links-a.ensures c.kept.ensures,
      links-left text tape c.args.q links _ _ c.mark.ensures c.walk-answer.ensures.left,
    )

pub returns-in-Err : goal.returns-in-Err
returns-in-Err c =
    let text : List ℕ = c.args.text.now in
    let tape : List ℕ = c.args.tape.now in
    let links : List ℕ = c.args.links.now in (
      refused_said text tape c.args.q links _ _ c.mark.ensures c.walk-answer.ensures.left (c.args.o.now, c.args.at) _ _ _ c.clean-in-Err.ensures
          _ c.walk-answer.ensures.answer c.in-Err.r c.in-Err.is c.refused-a.ensures c.kept-in-Err.ensures,
      links-left text tape c.args.q links _ _ c.mark.ensures c.walk-answer.ensures.left,
    )
